use Rattle.std.proofs.Common.{arith, ap, sym, refl, ◌∙◌, ◌≡◌, ◌+◌, ◌-◌, ◌<◌, ◌≤◌, ℕ, List, Option, Bool, false, true, get_or, length}
use Rattle.std.proofs.lemmas.List.{get_or_default}
use Rattle.std.specs.Option.{option_copied}
use Rattle.rangemap_core.specs.engine.Endpoints.{IsPlaced, EndpointOf}
use Rattle.rangemap_core.specs.engine.Shape.{PassesUpTo, given, optional}
use Rattle.rangemap_core.specs.engine.Stretch.{are_apart, IsOverlap, IsStretch}
use Rattle.rangemap_core.specs.Ranges.{RangeKind, IsStorable, IsCanonical}
use Rattle.rangemap_core.proofs.PlaceLemmas.{S, places, to_spaced, storable_here}
use Rattle.rangemap_core.proofs.InsertSideLemmas.{start_point, end_point}
use Rattle.rangemap_sorted.proofs.entries.stretch.stretch.Goals as goal
use Rattle.rangemap_sorted.proofs.entries.stretch.stretch.Goals.{Joined-places-gt0, then-places-gt0+then-not-is_apart, then-places-gt0+else-not-is_apart, else-places-gt0}

module _ {K X V : Type 0} {k : RangeKind K X} {end_place : X → Option K} {part : EndpointOf X → EndpointOf X → X} (p : IsPlaced k end_place part) (eq : V → V → Bool) (xs : List (X × V)) (c : IsCanonical k eq xs) (r : X) (value : Option V) (stored : IsStorable k r) (from to : ℕ) (ov : IsOverlap (S p eq) xs r from to) where
  -- the places when what lies before those that overlap was looked at
  record IsBegun (start end : ℕ) : Type 0 where
    up_to : start ≤ from
    same_end : end ≡ to
    before : PassesUpTo (λ a. are_apart (optional (S p eq)) (given a) (r, value)) xs start

  here : (i : ℕ) (a : X × V) → i < length xs → a ≡ get_or xs i a → (d : X × V) → get_or xs i d ≡ a
  here i a l is d = get_or_default xs i d a l ∙ sym is

  begun : (start : ℕ) → start ≤ from → from ≤ start + 1 → ((d : X × V) → start < from → are_apart (optional (S p eq)) (given (get_or xs start d)) (r, value) ≡ false) → ((d : X × V) → start ≡ from → 0 < from → are_apart (optional (S p eq)) (given (get_or xs (from - 1) d)) (r, value) ≡ true) → IsBegun start to
  begun start l m joined apart = record {
    up_to = l;
    same_end = refl;
    before = start_point (S p eq) (places p eq) xs (to_spaced p eq xs c) (r, value) (p.non_empty r stored) from to ov start l m joined apart;
  }

  begun_none : from ≡ 0 → IsBegun from to
  begun_none none = begun from (omega arith) (omega arith) (λ d l. absurd (omega (arith, l))) (λ d _ l. absurd (omega (arith, l)))

  module _ (a : X × V) (some : 0 < from) (is : a ≡ get_or xs (from - 1) a) where
    seen : (d : X × V) → are_apart (optional (S p eq)) (given (get_or xs (from - 1) d)) (r, value) ≡ are_apart (optional (S p eq)) (given a) (r, value)
    seen d = ap (λ (x : X × V). are_apart (optional (S p eq)) (given x) (r, value)) (here (from - 1) a (omega (arith, ov.start_le_end, ov.in_bounds)) is d)

    begun_apart : are_apart (optional (S p eq)) (given a) (r, value) ≡ true → IsBegun from to
    begun_apart apart = begun from (omega arith) (omega arith) (λ d l. absurd (omega (arith, l))) (λ d _ _. seen d ∙ apart)

    begun_joined : are_apart (optional (S p eq)) (given a) (r, value) ≡ false → IsBegun (from - 1) to
    begun_joined joined = begun (from - 1) (omega arith) (omega arith) (λ d _. seen d ∙ joined) (λ d same l. absurd (omega (arith, same, l)))

  -- the pairs that overlap, and that behind them where it is to be joined
  ended : (start n : ℕ) → IsBegun start to → to ≤ n → n ≤ to + 1 → n ≤ length xs → ((d : X × V) → to < n → are_apart (optional (S p eq)) (r, value) (given (get_or xs to d)) ≡ false) → ((d : X × V) → n ≡ to → to < length xs → are_apart (optional (S p eq)) (r, value) (given (get_or xs to d)) ≡ true) → IsStretch (S p eq) xs (r, value) start n
  ended start n b l m within joined apart = record {
    start_le_end = omega (arith, b.up_to, ov.start_le_end);
    in_bounds = within;
    before = b.before;
    after = end_point (S p eq) (places p eq) xs (to_spaced p eq xs c) (r, value) (p.non_empty r stored) from to ov n l m joined apart;
  }

  ended_none : (start end : ℕ) → IsBegun start end → length xs ≤ end → IsStretch (S p eq) xs (r, value) start end
  ended_none start end b none = rw b.same_end (ended start to (rw b.same_end at b) (omega arith) (omega arith) ov.in_bounds (λ d l. absurd (omega (arith, l))) (λ d _ l. absurd (omega (arith, none, b.same_end, l))))

  module _ (start end : ℕ) (b : IsBegun start end) (a : X × V) (some : end < length xs) (is : a ≡ get_or xs end a) where
    seen_behind : (d : X × V) → are_apart (optional (S p eq)) (r, value) (given (get_or xs to d)) ≡ are_apart (optional (S p eq)) (r, value) (given a)
    seen_behind d = ap (λ (x : X × V). are_apart (optional (S p eq)) (r, value) (given x)) (ap (λ i. get_or xs i d) (sym b.same_end) ∙ here end a some is d)

    ended_apart : are_apart (optional (S p eq)) (r, value) (given a) ≡ true → IsStretch (S p eq) xs (r, value) start end
    ended_apart apart = rw b.same_end (ended start to (rw b.same_end at b) (omega arith) (omega arith) ov.in_bounds (λ d l. absurd (omega (arith, l))) (λ d _ _. seen_behind d ∙ apart))

    ended_joined : are_apart (optional (S p eq)) (r, value) (given a) ≡ false → IsStretch (S p eq) xs (r, value) start (end + 1)
    ended_joined joined = rw b.same_end (ended start (to + 1) (rw b.same_end at b) (omega arith) (omega arith) (omega (arith, some, b.same_end)) (λ d _. seen_behind d ∙ joined) (λ d same l. absurd (omega (arith, same, l))))

pub is_apart-requires-clause-first : goal.is_apart-requires-clause-first
is_apart-requires-clause-first g c =
    let ov = c.overlap-places.ensures in
    storable_here g.met.Q.Kind.placed g.V.PartialEq.eq c.args.pairs.now c.requires.canonical (c.overlap-places.result.start - 1) c.index-pairs-places.result (omega (arith, ov.start_le_end, ov.in_bounds)) c.index-pairs-places.is

pub is_apart-requires-then-places-pairs-clause-second : goal.is_apart-requires-then-places-pairs-clause-second
is_apart-requires-then-places-pairs-clause-second g c = storable_here g.met.Q.Kind.placed g.V.PartialEq.eq c.args.pairs.now c.requires.canonical c.if-places-gt0.places.end c.index-pairs-places-then-places-pairs.result (omega arith) c.index-pairs-places-then-places-pairs.is

-- the pair before those that overlap was looked at
begun_before : (g : _) (c : Joined-places-gt0 g) → IsBegun g.met.Q.Kind.placed g.V.PartialEq.eq c.args.pairs.now c.requires.canonical c.args.range.now (option_copied c.args.value) c.requires.range c.overlap-places.result.start c.overlap-places.result.end c.overlap-places.ensures c.if-places-gt0.places.start c.if-places-gt0.places.end
begun_before g c = elim c.if-places-gt0.branch [
  | then-places-gt0+then-not-is_apart w ↦ rw w.places-is (begun_joined g.met.Q.Kind.placed g.V.PartialEq.eq c.args.pairs.now c.requires.canonical c.args.range.now (option_copied c.args.value) c.requires.range c.overlap-places.result.start c.overlap-places.result.end c.overlap-places.ensures w.index-pairs-places.result w.if-places-gt0.true w.index-pairs-places.is (sym w.is_apart.ensures ∙ w.if-not-is_apart.true))
  | then-places-gt0+else-not-is_apart w ↦ rw w.places-is (begun_apart g.met.Q.Kind.placed g.V.PartialEq.eq c.args.pairs.now c.requires.canonical c.args.range.now (option_copied c.args.value) c.requires.range c.overlap-places.result.start c.overlap-places.result.end c.overlap-places.ensures w.index-pairs-places.result w.if-places-gt0.true w.index-pairs-places.is (sym w.is_apart.ensures ∙ w.if-not-is_apart.false))
  | else-places-gt0 w ↦ rw w.places-is (begun_none g.met.Q.Kind.placed g.V.PartialEq.eq c.args.pairs.now c.requires.canonical c.args.range.now (option_copied c.args.value) c.requires.range c.overlap-places.result.start c.overlap-places.result.end c.overlap-places.ensures (omega (arith, w.if-places-gt0.false)))
]

pub returns-then-not-is_apart-2 : goal.returns-then-not-is_apart-2
returns-then-not-is_apart-2 g c =
    ended_joined g.met.Q.Kind.placed g.V.PartialEq.eq c.args.pairs.now c.requires.canonical c.args.range.now (option_copied c.args.value) c.requires.range c.overlap-places.result.start c.overlap-places.result.end c.overlap-places.ensures c.if-places-gt0.places.start c.if-places-gt0.places.end (begun_before g (goal.at.returns-then-not-is_apart-2 g c).Joined-places-gt0)
    c.index-pairs-places-then-places-pairs.result c.if-places-pairs.true c.index-pairs-places-then-places-pairs.is (sym c.is_apart-then-places-pairs.ensures ∙ c.if-not-is_apart-2.true)

pub returns-else-not-is_apart-2 : goal.returns-else-not-is_apart-2
returns-else-not-is_apart-2 g c =
    ended_apart g.met.Q.Kind.placed g.V.PartialEq.eq c.args.pairs.now c.requires.canonical c.args.range.now (option_copied c.args.value) c.requires.range c.overlap-places.result.start c.overlap-places.result.end c.overlap-places.ensures c.if-places-gt0.places.start c.if-places-gt0.places.end (begun_before g (goal.at.returns-else-not-is_apart-2 g c).Joined-places-gt0)
    c.index-pairs-places-then-places-pairs.result c.if-places-pairs.true c.index-pairs-places-then-places-pairs.is (sym c.is_apart-then-places-pairs.ensures ∙ c.if-not-is_apart-2.false)

pub returns-else-places-pairs : goal.returns-else-places-pairs
returns-else-places-pairs g c = ended_none g.met.Q.Kind.placed g.V.PartialEq.eq c.args.pairs.now c.requires.canonical c.args.range.now (option_copied c.args.value) c.requires.range c.overlap-places.result.start c.overlap-places.result.end c.overlap-places.ensures c.if-places-gt0.places.start c.if-places-gt0.places.end (begun_before g (goal.at.returns-else-places-pairs g c).Joined-places-gt0) (omega arith)
