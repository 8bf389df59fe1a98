-- What follows of ranges that go from place to place.
use Rattle.std.proofs.Common.{◌≡◌, Bool, true, false, ◌||◌, cond, List, [], ◌∷◌, ◌∙◌, ap, refl, Less, is_lt, is_le}
use Rattle.std.specs.List.{list_any}
use Rattle.std.specs.Cmp.Derive.{both_true}
use Rattle.rangemap_core.specs.operations.PlaceLaws.{HasPlaces}
use Rattle.rangemap_unions.specs.Items.{reaches, later_end}
use Rattle.rangemap_core.specs.operations.Places.{RangePlaces}
use Rattle.rangemap_core.specs.laws.Orders.{le_Less, le_Equal, itself, not_lt}
use Rattle.rangemap_core.specs.Ranges.{RangeKind, covers}
use Rattle.rangemap_core.specs.Sets.{is_within}
use Rattle.rangemap_core.specs.engine.EndpointKinds.{lt_is}
use Rattle.rangemap_core.proofs.GapLemmas.{covers-cons}

-- ---- tests

pub or_first : (a b : Bool) → a ≡ true → (a || b) ≡ true
or_first a b h = ap (λ c. c || b) h

pub or_second : (a b : Bool) → b ≡ true → (a || b) ≡ true
or_second true b h = refl
or_second false b h = h

-- a fact of both choices is one of the choice
pub chosen : {X : Type 0} (Q : X → Type 0) (b : Bool) (x y : X) → Q x → Q y → Q (cond b x y)
chosen Q true x y h g = h
chosen Q false x y h g = g

-- a fact of each choice, where the test decides it, is one of the choice
pub decided : {X : Type 0} (Q : X → Type 0) (test : Bool) {x y : X} → (test ≡ true → Q x) → (test ≡ false → Q y) → Q (cond test x y)
decided Q true h g = h refl
decided Q false h g = g refl

pub covers_any : {K X : Type 0} (k : RangeKind K X) (rs : List X) (x : K) → covers k rs x ≡ list_any (λ r. k.holds r x) rs
covers_any k [] x = refl
covers_any k (r ∷ rest) x = covers-cons k r rest x ∙ ap (λ b. k.holds r x || b) (covers_any k rest x)

-- ---- ranges and their places

module _ {K X P : Type 0} {k : RangeKind K X} {l : RangePlaces P X} {at cut : K → P} (p : HasPlaces k l at cut) where
  -- one range within another
  pub within : (item r : X) → is_le (l.order (l.start_place item) (l.start_place r)) ≡ true → is_le (l.order (l.end_place r) (l.end_place item)) ≡ true → is_within k item r ≡ true
  within item r h g = both_true (ap is_le (p.starts item r) ∙ h) (ap is_le (p.ends r item) ∙ g)

  -- s starts before r ends, or not
  pub reached : (r s : X) → reaches l r s ≡ true → l.order (l.start_place s) (l.end_place r) ≡ Less
  reached r s h = lt_is _ h

  pub unreached : (r s : X) → reaches l r s ≡ false → is_le (l.order (l.end_place r) (l.start_place s)) ≡ true
  unreached r s h = not_lt p.total (l.start_place s) (l.end_place r) h

  -- the later end is at least both
  pub later_first : (r s : X) → is_le (l.order (l.end_place r) (l.end_place (later_end l r s))) ≡ true
  later_first r s = by (is_lt (l.order (l.end_place r) (l.end_place s))) refl
    where
      by : (b : Bool) → is_lt (l.order (l.end_place r) (l.end_place s)) ≡ b → is_le (l.order (l.end_place r) (l.end_place (cond b s r))) ≡ true
      by true e = le_Less (lt_is _ e)
      by false e = le_Equal (itself p.total (l.end_place r))

  pub later_second : (r s : X) → is_le (l.order (l.end_place s) (l.end_place (later_end l r s))) ≡ true
  later_second r s = by (is_lt (l.order (l.end_place r) (l.end_place s))) refl
    where
      by : (b : Bool) → is_lt (l.order (l.end_place r) (l.end_place s)) ≡ b → is_le (l.order (l.end_place s) (l.end_place (cond b s r))) ≡ true
      by true e = le_Equal (itself p.total (l.end_place s))
      by false e = not_lt p.total (l.end_place r) (l.end_place s) e
