-- For callers that loop over the pairs that overlap a query, over the ranges of a set, a union or an
-- intersection, or over the gaps of a set: what they were given so far, and what all of them are.
use Rattle.std.proofs.Common.{arith, ◌≡◌, ℕ, Bool, true, false, cond, List, [], ◌∷◌, ◌++◌, map, append-nil, Option, Some, None, is_some, Result, Ok, Err, IsOkAnd, Ordering, Equal, refl, sym, ap, subst, ◌∙◌, true≢false}
use Rattle.std.proofs.lemmas.Bool.Decides.{nat_tests}
use Rattle.std.proofs.lemmas.List.Elements.{recursion_from_All}
use Rattle.std.proofs.lemmas.Map.Iter.{iter_end}
use Rattle.std.specs.Bool.{⊤}
use Rattle.std.specs.Cmp.{int_ranked}
use Rattle.std.specs.Iterator.{Yields}
use Rattle.std.specs.Borrow.{Bor}
use Rattle.std.specs.List.{All, AllByRecursion, find}
use Rattle.std.specs.Map.Iter.{deref, deref_pair}
use Rattle.std.specs.Ordering.{int_cmp, nat_cmp}
use Rattle.std.specs.Prelude.{ℤ}
use Rattle.std.specs.declared.alloc.AllocError.{AllocError}
use Rattle.rangemap_core.specs.MadeRanges.{GivesRange, IsSame}
use Rattle.rangemap_core.specs.Ranges.{RangeKind, AreGaps, IsCanonical, IsStorable, closed, covers, half_open, overlapped, value_at, with_unit}
use Rattle.rangemap_core.specs.engine.Endpoints.{IsPlaced, EndpointOf}
use Rattle.rangemap_core.specs.Sets.{AreCommon, AreHulls, AreWithout, CoverEither, IsCanonicalSet, IsHull}
use Rattle.rangemap_core.proofs.UniquenessLemmas.{value_cons}
use Rattle.rangemap_unions.proofs.UnitValueLemmas.{ranges_with}
use Rattle.rangemap_core.proofs.StoredKeyLemmas.{meets_where_shared}
use Rattle.rangemap.proofs.NumberKinds.{NumberKind}
use Rattle.rangemap.proofs.NumberLemmas.{IsInOne, IsStretch, last_gap, next_gap}
use Rattle.rangemap.proofs.Loops.{AsksAgain, AsksForGaps, LendsPairs, LendsRanges}
use Rattle.rangemap.proofs.PairLoopLemmas.{ComesFrom, IsAsked, value_from_items}
use Rattle.rangemap_unions.proofs.SetLemmas.{valued_where_covered}

-- ---- the pairs that overlap a query

module _ {K X V : Type 0} {k : RangeKind K X} {end_place : X → Option K} {part : EndpointOf X → EndpointOf X → X} (p : IsPlaced k end_place part) (eq : V → V → Bool) (q : X) (stored : IsStorable k q) where
  -- they give each key of the query the value that the map gives it
  pub met_value : (list : List (X × V)) → IsCanonical k eq list → (x : K) → k.is_key x → k.holds q x ≡ true → value_at k (overlapped k list q) x ≡ value_at k list x
  met_value [] can x key h = refl
  met_value (a ∷ list) can x key h = go (k.meets q a.0) refl (k.holds a.0 x) refl (met_value list can.2 x key h)
    where
      go : (b : Bool) → k.meets q a.0 ≡ b → (t : Bool) → k.holds a.0 x ≡ t → value_at k (overlapped k list q) x ≡ value_at k list x → value_at k (cond b (a ∷ overlapped k list q) (overlapped k list q)) x ≡ value_at k (a ∷ list) x
      go true m t e rest = value_cons k a (overlapped k list q) x ∙ ap (λ o. cond (k.holds a.0 x) (Some a.1) o) rest ∙ sym (value_cons k a list x)
      go false m true e rest = absurd (true≢false (sym (meets_where_shared p q a.0 x stored can.0 key h e) ∙ m))
      go false m false e rest = rest ∙ sym (value_cons k a list x ∙ ap (λ b. cond b (Some a.1) (value_at k list x)) e)

-- each key of the query has its value from a pair of which P holds
abbrev pub ComeFrom : {K X V : Type 0} → RangeKind K X → List (X × V) → X → (X × V → Type 0) → Type 0
ComeFrom {K} {X} {V} k list query P = (x : K) → k.is_key x → k.holds query x ≡ true → (v : V) → value_at k list x ≡ Some v → ComesFrom k P x v

-- at the end of `for (range, value) in map.overlapping(&query)`, where P held of each item
pub value_from_met_items : {K X V : Type 0} {k : RangeKind K X} {end_place : X → Option K} {part : EndpointOf X → EndpointOf X → X} (p : IsPlaced k end_place part) {eq : V → V → Bool} {list : List (X × V)} {q : X} → IsAsked k eq list q → (P : X × V → Type 0) {items : List (Bor X × Bor V)} {result : Option (Bor X × Bor V)} → LendsPairs (overlapped k list q) items result → All (λ item. P (deref_pair item)) items → result ≡ None → ComeFrom k list q P
value_from_met_items {k = k} p {eq} {list} {q} asked P asks each none x key h v there =
    value_from_items k (overlapped k list q) P asks each none x v (met_value p eq q asked.storable list asked.canonical x key h ∙ there)

-- ---- ranges with the same ends are one range, where keys that tie are one key

abbrev pub IsExact : {K X : Type 0} → RangeKind K X → Type 0
IsExact {X = X} k = (r s : X) → k.IsNonEmpty r → IsSame k r s → r ≡ s

module _ {K : Type 0} {cmp : K → K → Ordering} (same : (x y : K) → cmp x y ≡ Equal → x ≡ y) where
  half_open_exact : IsExact (half_open cmp)
  half_open_exact r s full h =
      let starts = same r.start s.start h.starts in
      let ends = same r.end s.end h.ends in
      λ i. record { start = starts i; end = ends i }

  closed_exact : (is_key : K → Type 0) → IsExact (closed is_key cmp)
  closed_exact is_key r s full h =
      let starts = same r.start s.start h.starts in
      let ends = same r.end s.end h.ends in
      let fresh : r.exhausted ≡ s.exhausted = full.1 ∙ sym h.storable.non_empty.1 in
      λ i. record { start = starts i; end = ends i; exhausted = fresh i }

one_number : (x y : ℕ) → nat_cmp x y ≡ Equal → x ≡ y
one_number x y h = grind (arith, nat_tests)

one_signed : (x y : ℤ) → int_cmp x y ≡ Equal → x ≡ y
one_signed x y h = int_ranked x y Equal (sym h)

-- `a..b` of unsigned and of signed numbers
pub exact_half_open : IsExact (half_open nat_cmp)
exact_half_open = half_open_exact one_number

pub exact_half_open_signed : IsExact (half_open int_cmp)
exact_half_open_signed = half_open_exact one_signed

-- `a..=b` of unsigned numbers and of characters, and of signed numbers
pub exact_closed : {is_key : ℕ → Type 0} → IsExact (closed is_key nat_cmp)
exact_closed {is_key} = closed_exact one_number is_key

pub exact_closed_signed : {is_key : ℤ → Type 0} → IsExact (closed is_key int_cmp)
exact_closed_signed {is_key} = closed_exact one_signed is_key

-- ---- what comes of an iterator

module _ {K X : Type 0} (k : RangeKind K X) where
  -- no range of a union is empty
  hulls_full : (given all : List X) → AllByRecursion (IsHull k given) all → AllByRecursion k.IsNonEmpty all
  hulls_full given [] h = tt
  hulls_full given (r ∷ rs) h = (h.0.non_empty, hulls_full given rs h.1)

  pub union_full : {given all : List X} → AreHulls k given all → AllByRecursion k.IsNonEmpty all
  union_full {given} {all} h = hulls_full given all h.hulls

  -- nor of a canonical list, as an intersection and the gaps are
  pub canonical_full : (all : List X) → IsCanonicalSet k all → AllByRecursion k.IsNonEmpty all
  canonical_full [] can = tt
  canonical_full (r ∷ rs) can = (can.0.non_empty, canonical_full rs can.2)

  pub covers_middle : (taken : List X) (g : X) (new : List X) (x : K) → k.holds g x ≡ true → covers k (taken ++ g ∷ new) x ≡ true
  covers_middle [] g new x h = ap (λ b. is_some (cond b (Some g) (find (λ r. k.holds r x) new))) h
  covers_middle (t ∷ taken) g new x h = go (k.holds t x) (covers_middle taken g new x h)
    where
      go : (b : Bool) → covers k (taken ++ g ∷ new) x ≡ true → is_some (cond b (Some t) (find (λ r. k.holds r x) (taken ++ g ∷ new))) ≡ true
      go true rest = refl
      go false rest = rest

  pub full_middle : (taken : List X) (g : X) (new : List X) → AllByRecursion k.IsNonEmpty (taken ++ g ∷ new) → k.IsNonEmpty g
  full_middle [] g new h = h.0
  full_middle (t ∷ taken) g new h = full_middle taken g new h.1

  module _ (exact : IsExact k) where
    -- the ranges so far are the first of all
    first_of_all : (all taken left : List X) → AllByRecursion k.IsNonEmpty all → Yields (GivesRange k) all (map Ok taken) left → all ≡ taken ++ left
    first_of_all all [] left full y = y
    first_of_all all (s ∷ taken) left full y =
        let cut = subst (AllByRecursion k.IsNonEmpty) y.1.1 full in
        let here = exact y.1.0 s cut.0 y.1.2 in
        let rest = first_of_all y.0 taken left cut.1 y.2 in
        y.1.1 ∙ (λ i. here i ∷ rest i)

-- The key x is one of a range of which P holds.
pub record LiesIn {K X : Type 0} (k : RangeKind K X) (P : X → Type 0) (x : K) : Type 0 where
  pub range : X
  pub kept : P range
  pub holds : k.holds range x ≡ true

module _ {X : Type 0} (P : X → Type 0) where
  -- items of each of which P holds are ranges
  ranges_of : (items : List (Result X AllocError)) → AllByRecursion (λ item. IsOkAnd item P) items → (taken : List X) × (items ≡ map Ok taken) × AllByRecursion P taken
  ranges_of [] each = ([], refl, tt)
  ranges_of (Ok s ∷ items) each = let rest = ranges_of items each.1 in (s ∷ rest.0, ap (λ xs. Ok s ∷ xs) rest.1, (each.0, rest.2))
  ranges_of (Err e ∷ items) each = absurd each.0

  has_one : {K : Type 0} (k : RangeKind K X) (taken : List X) → AllByRecursion P taken → (x : K) → covers k taken x ≡ true → LiesIn k P x
  has_one k [] each x h = absurd (true≢false (sym h))
  has_one k (t ∷ taken) each x h = go (k.holds t x) refl h (has_one k taken each.1 x)
    where
      go : (b : Bool) → k.holds t x ≡ b → is_some (cond b (Some t) (find (λ r. k.holds r x) taken)) ≡ true → (covers k taken x ≡ true → LiesIn k P x) → LiesIn k P x
      go true e h rest = record { range = t; kept = each.0; holds = e }
      go false e h rest = rest h

-- A loop over the ranges `all` that an iterator makes, as `for range in left.union(right)`. None of the
-- ranges is empty (`union_full`, `canonical_full`).
module _ {K X : Type 0} {k : RangeKind K X} (exact : IsExact k) {all : List X} (full : AllByRecursion k.IsNonEmpty all) {items : List (Result X AllocError)} {result : Option (Result X AllocError)} (asks : AsksAgain k all items result) where
  parts : (taken : List X) → items ≡ map Ok taken → all ≡ taken ++ asks.left
  parts taken alike = sym asks.is ∙ first_of_all k exact asks.start taken asks.left (subst (AllByRecursion k.IsNonEmpty) (sym asks.is) full) (subst (λ xs. Yields (GivesRange k) asks.start xs asks.left) alike asks.so_far)

  -- at the end the items are all of them
  pub ranges_collected : {collected : List X} → items ≡ map Ok collected → result ≡ None → all ≡ collected
  ranges_collected {collected} alike none =
      let ended : asks.left ≡ [] = (subst (λ answer. GivesRange k asks.left answer asks.new) none asks.step).0 in
      parts collected alike ∙ ap (λ xs. collected ++ xs) ended ∙ append-nil collected

  -- a further item, where P held of each before, is one of all: it may be stored, and they cover each key
  -- of it
  pub item_is_covered : (P : X → Type 0) → All (λ item. IsOkAnd item P) items → {item : Result X AllocError} {range : X} → (result ≡ Some item) × (item ≡ Ok range) → IsStorable k range × ((x : K) → k.holds range x ≡ true → covers k all x ≡ true)
  item_is_covered P each {item} {range} is =
      let given = ranges_of P items (recursion_from_All (λ item. IsOkAnd item P) items each) in
      let next = subst (λ answer. GivesRange k asks.left answer asks.new) (is.0 ∙ ap Some is.1) asks.step in
      let whole : all ≡ given.0 ++ next.0 ∷ asks.new = parts given.0 given.1 ∙ ap (λ xs. given.0 ++ xs) next.1 in
      let here : next.0 ≡ range = exact next.0 range (full_middle k given.0 next.0 asks.new (subst (AllByRecursion k.IsNonEmpty) whole full)) next.2 in
      (next.2.storable, λ x h. ap (λ xs. covers k xs x) whole ∙ covers_middle k given.0 next.0 asks.new x (ap (λ r. k.holds r x) here ∙ h))

  -- at the end each key that they cover is one of an item, of which P holds
  pub covered_by_item : {P : X → Type 0} → All (λ item. IsOkAnd item P) items → result ≡ None → (x : K) → covers k all x ≡ true → LiesIn k P x
  covered_by_item {P} each none x h =
      let given = ranges_of P items (recursion_from_All (λ item. IsOkAnd item P) items each) in
      has_one P k given.0 given.2 x (sym (ap (λ xs. covers k xs x) (ranges_collected given.1 none)) ∙ h)

-- ---- the ranges of a set

module _ {K X : Type 0} (k : RangeKind K X) (set : List X) (P : X → Type 0) where
  each_range : (items : List (Bor X)) → AllByRecursion (λ item. P (deref item)) items → AllByRecursion P (map deref items)
  each_range [] each = each
  each_range (item ∷ items) each = (each.0, each_range items each.1)

  -- at the end of a loop over `set.iter()`, where P held of each item, each key of the set is one of a
  -- range of which P holds
  pub covered_by_items : {items : List (Bor X)} {result : Option (Bor X)} → LendsRanges set items result → All (λ item. P (deref item)) items → result ≡ None → (x : K) → covers k set x ≡ true → LiesIn k P x
  covered_by_items {items} {result} asks each none =
      has_one P k set (subst (AllByRecursion P) (iter_end deref set items asks.start asks.left asks.new result (asks.is ∙ asks.all) asks.so_far none asks.step).0 (each_range items (recursion_from_All (λ item. P (deref item)) items each)))

-- ---- what such a loop has collected at its end

module _ {K X : Type 0} {k : RangeKind K X} (exact : IsExact k) (ps qs all : List X) {items : List (Result X AllocError)} {result : Option (Result X AllocError)} (collected : List X) where
  -- of a union, where ranges that only touch stay apart
  pub either_collected : AreHulls k (ps ++ qs) all → CoverEither k ps qs all → AsksAgain k all items result → items ≡ map Ok collected → result ≡ None → CoverEither k ps qs collected
  either_collected hulls points asks alike none = subst (CoverEither k ps qs) (ranges_collected exact (union_full k hulls) asks alike none) points

  -- of an intersection
  pub common_collected : AreCommon k ps qs all → AsksAgain k all items result → items ≡ map Ok collected → result ≡ None → AreCommon k ps qs collected
  common_collected are asks alike none = subst (AreCommon k ps qs) (ranges_collected exact (canonical_full k all are.canonical) asks alike none) are

  -- of a difference
  pub without_collected : AreWithout k ps qs all → AsksAgain k all items result → items ≡ map Ok collected → result ≡ None → AreWithout k ps qs collected
  without_collected are asks alike none = subst (AreWithout k ps qs) (ranges_collected exact (canonical_full k all are.canonical) asks alike none) are

-- ---- a loop that searches the gaps of a set, as `next_gap` and `last_gap` of `NumberLemmas`

module _ {K X : Type 0} (k : RangeKind K X) (set : List X) (q : X) where
  asks_pairs : {items : List (Result X AllocError)} {result : Option (Result X AllocError)} → AsksForGaps k set q items result → AsksForGaps k (map (λ pair. pair.0) (with_unit k set)) q items result
  asks_pairs asks = record { all = asks.all; are = subst (λ rs. AreGaps k rs q asks.all) (sym (ranges_with k set)) asks.are; asks = asks.asks }

module _ {K X : Type 0} (k : RangeKind K X) (set : List X) (q : X) (gaps : List X) where
  -- the gaps of a set are those of the map that it is, of which `collect_gaps` speaks
  pub gaps_of_pairs : AreGaps k set q gaps → AreGaps k (map (λ pair. pair.0) (with_unit k set)) q gaps
  gaps_of_pairs are = subst (λ rs. AreGaps k rs q gaps) (sym (ranges_with k set)) are

  pub gaps_of_set : AreGaps k (map (λ pair. pair.0) (with_unit k set)) q gaps → AreGaps k set q gaps
  gaps_of_set are = subst (λ rs. AreGaps k rs q gaps) (ranges_with k set) are

module _ {K X : Type 0} (n : NumberKind K X) (set : List X) where
  -- the set has no number from the first up to, and without, the second
  abbrev pub LacksBetween : K → K → Type 0
  LacksBetween first past = (x : K) → n.order.IsAtMost first x → n.order.IsBelow x past → covers n.kind set x ≡ false

  lacked : (x : K) → value_at n.kind (with_unit n.kind set) x ≡ None → covers n.kind set x ≡ false
  lacked x h = sym (valued_where_covered n.kind set x) ∙ ap is_some h

  none_lacked : (x : K) → covers n.kind set x ≡ false → value_at n.kind (with_unit n.kind set) x ≡ None
  none_lacked x h = is_none (value_at n.kind (with_unit n.kind set) x) (valued_where_covered n.kind set x ∙ h)
    where
      is_none : (o : Option ⊤) → is_some o ≡ false → o ≡ None
      is_none None h = refl
      is_none (Some u) h = absurd (true≢false h)

  -- The next gap: its numbers are numbers of q that the set lacks, and whatever such numbers start
  -- before it lie in an earlier gap.
  pub record IsNextSetGap (q : X) (P : X → Type 0) (gap : X) : Type 0 where
    pub stored : IsStorable n.kind gap
    pub forward : n.order.IsBelow (n.kind.start gap) (n.behind gap)
    pub from : n.order.IsAtMost (n.kind.start q) (n.kind.start gap)
    pub to : n.order.IsAtMost (n.behind gap) (n.behind q)
    pub lacks : LacksBetween (n.kind.start gap) (n.behind gap)
    pub earlier : (first past : K) → IsStretch n first past → n.order.IsAtMost (n.kind.start q) first → n.order.IsAtMost past (n.behind q) → LacksBetween first past → n.order.IsBelow first (n.kind.start gap) → IsInOne n P first past

module _ {K X : Type 0} (n : NumberKind K X) (set : List X) (q : X) {items : List (Result X AllocError)} {result : Option (Result X AllocError)} (asks : AsksForGaps n.kind set q items result) {P : X → Type 0} (each : All (λ item. IsOkAnd item P) items) where
  -- a gap that such a loop is given
  pub next_set_gap : {item : Result X AllocError} {gap : X} → (result ≡ Some item) × (item ≡ Ok gap) → IsNextSetGap n set q P gap
  next_set_gap given =
      let gap = next_gap n (with_unit n.kind set) q (asks_pairs n.kind set q asks) each given in
      record {
        stored = gap.stored;
        forward = gap.forward;
        from = gap.from;
        to = gap.to;
        lacks = λ x from to. lacked n set x (gap.free x from to);
        earlier = λ first past s from to lacks below. gap.earlier first past s from to (λ x at up. none_lacked n set x (lacks x at up)) below;
      }

  -- at its end, numbers that the set lacks lie in some gap
  pub last_set_gap : result ≡ None → (first past : K) → IsStretch n first past → n.order.IsAtMost (n.kind.start q) first → n.order.IsAtMost past (n.behind q) → LacksBetween n set first past → IsInOne n P first past
  last_set_gap none first past s from to lacks = last_gap n (with_unit n.kind set) q (asks_pairs n.kind set q asks) each none first past s from to (λ x at up. none_lacked n set x (lacks x at up))
