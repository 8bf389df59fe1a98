-- For callers that count what a container lends: at the end of a loop the items are all of it, and at a turn there is one more.
use Rattle.std.proofs.Common.{◌≡◌, ◌∙◌, ◌+◌, ◌<◌, ◌≤◌, arith, ap, cond, count_by, length, map, refl, sym, Bool, List, [], ◌∷◌, Option, Some, None}
use Rattle.std.specs.List.{filter}
use Rattle.std.proofs.lemmas.List.Sums.{count_by-le-length, length-filter, sum_by-cons}
use Rattle.std.proofs.lemmas.Map.Iter.{iter_end, iter_turn}
use Rattle.rangemap_core.specs.Ranges.{RangeKind, overlapped}
use Rattle.rangemap_core.specs.Sets.{met}
use Rattle.rangemap.proofs.Loops.{LendsAgain}

count_by-map : {A B : Type 0} (p : B → Bool) (f : A → B) (xs : List A) → count_by p (map f xs) ≡ count_by (λ x. p (f x)) xs
count_by-map p f [] = refl
count_by-map p f (x ∷ xs) = sum_by-cons (λ y. cond (p y) 1 0) (f x) (map f xs) ∙ (ap (λ n. cond (p (f x)) 1 0 + n) (count_by-map p f xs) ∙ sym (sum_by-cons (λ x. cond (p (f x)) 1 0) x xs))

filter_shorter : {A : Type 0} (p : A → Bool) (xs : List A) → length (filter p xs) ≤ length xs
filter_shorter p xs = omega (arith, length-filter p xs, count_by-le-length p xs)

-- what a query overlaps is no more than what is stored
pub overlapped_shorter : {K X V : Type 0} (k : RangeKind K X) (list : List (X × V)) (q : X) → length (overlapped k list q) ≤ length list
overlapped_shorter k list q = filter_shorter _ list

pub met_shorter : {K X : Type 0} (k : RangeKind K X) (set : List X) (q : X) → length (met k set q) ≤ length set
met_shorter k set q = filter_shorter _ set

module _ {Item A : Type 0} {show : Item → A} {given : List A} {items : List Item} {result : Option Item} (lends : LendsAgain show given items result) where
  -- at the end the items are all that is given
  pub items_are_all : result ≡ None → map show items ≡ given
  items_are_all none = (iter_end show lends.lent items lends.start lends.left lends.new result lends.is lends.so_far none lends.step).0 ∙ lends.all

  -- and as many of them pass a test
  pub items_counted : (p : A → Bool) → result ≡ None → count_by (λ item. p (show item)) items ≡ count_by p given
  items_counted p none = sym (count_by-map p show items) ∙ ap (λ list. count_by p list) (items_are_all none)

  -- at a turn fewer items came than are given, so one more can be counted
  pub fewer_counted : (p : Item → Bool) {item : Item} → result ≡ Some item → count_by p items < length given
  fewer_counted p some =
      let turn = iter_turn show lends.lent items lends.start lends.left lends.new result lends.is lends.so_far _ some lends.step in
      omega (arith, turn.0, ap length lends.all, count_by-le-length p items)
