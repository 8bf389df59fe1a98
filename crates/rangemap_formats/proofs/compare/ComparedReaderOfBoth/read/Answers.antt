use Rattle.std.proofs.Common.{◌≡◌, ◌∷◌, ◌∙◌, ap, rules, true, false, sym}
use Rattle.std.specs.Ordering.{is_ne, ordering_then}
use Rattle.rangemap_core.specs.Shown.{shown}
use Rattle.rangemap_core.specs.ListOrder.{pair_cmp}
use Rattle.rangemap_formats.proofs.CompareLemmas.{chained, firsts_decide, firsts_defer}
use Rattle.rangemap_formats.proofs.compare.ComparedReaderOfBoth.read.Goals.{After-then_with-found}
use Rattle.rangemap_formats.proofs.compare.ComparedReaderOfBoth.read.Goals as goal

-- how the two pairs compare
compared : (g : _) (c : After-then_with-found g) → c.then_with-found.result ≡ pair_cmp g.Q.Kind.kind g.V.Ord.cmp (c.parts.result.0.now, c.parts.result.1.now) (c.parts-in-Some.result.0.now, c.parts-in-Some.result.1.now)
compared g c =
    let cmp = g.Q.Kind.kind.cmp in
    let starts : c.cmp.result ≡ cmp (g.Q.Kind.kind.start c.parts.result.0.now) (g.Q.Kind.kind.start c.parts-in-Some.result.0.now) = search rules in
    let ranges = chained c.cmp.result (cmp (g.Q.Kind.kind.end c.parts.result.0.now) (g.Q.Kind.kind.end c.parts-in-Some.result.0.now)) c.then_with.result _ c.then_with.ensures (λ says. search rules) in
    chained c.then_with.result (g.V.Ord.cmp c.parts.result.1.now c.parts-in-Some.result.1.now) c.then_with-found.result _ c.then_with-found.ensures (λ says. search rules) ∙ ap (λ o. ordering_then o (g.V.Ord.cmp c.parts.result.1.now c.parts-in-Some.result.1.now)) (ranges ∙ ap (λ o. ordering_then o (cmp (g.Q.Kind.kind.end c.parts.result.0.now) (g.Q.Kind.kind.end c.parts-in-Some.result.0.now))) starts)

-- the pairs that were taken, and how they compare
taken : (g : _) (c : After-then_with-found g)
    → (g.C.Cursor.left c.pairs.left ≡ (shown g.C.Cursor.given g.C.Cursor.given_value c.in-Some.left_pair) ∷ g.C.Cursor.left c.take_first.new.self)
    × (g.C.Cursor.left c.pairs.right ≡ (shown g.C.Cursor.given g.C.Cursor.given_value c.in-Some-take_first.right_pair) ∷ g.C.Cursor.left c.take_first-in-Some.new.self)
    × (c.then_with-found.result ≡ pair_cmp g.Q.Kind.kind g.V.Ord.cmp (shown g.C.Cursor.given g.C.Cursor.given_value c.in-Some.left_pair) (shown g.C.Cursor.given g.C.Cursor.given_value c.in-Some-take_first.right_pair))
taken g c =
    let cmp = pair_cmp g.Q.Kind.kind g.V.Ord.cmp in (
      rw c.in-Some.is at c.take_first.ensures,
      rw c.in-Some-take_first.is at c.take_first-in-Some.ensures,
      compared g c ∙ (λ i. cmp (c.parts.ensures.range i, c.parts.ensures.value i) (c.parts-in-Some.ensures.range i, c.parts-in-Some.ensures.value i)),
    )

pub returns-then-is_ne : goal.returns-then-is_ne
returns-then-is_ne g c =
    let h = taken g (goal.at.returns-then-is_ne g c).After-then_with-found in
    let decided : is_ne c.then_with-found.result ≡ true = sym c.is_ne.ensures ∙ c.if-is_ne.true in
    firsts_decide (pair_cmp g.Q.Kind.kind g.V.Ord.cmp) _ _ _ _ _ _ h.0 h.1 c.then_with-found.result h.2 decided ∙ c.pairs.invariant

pub pairs-preserved : goal.pairs-preserved
pairs-preserved g c =
    let h = taken g (goal.at.pairs-preserved g c).After-then_with-found in
    let defers : is_ne c.then_with-found.result ≡ false = sym c.is_ne.ensures ∙ c.if-is_ne.false in
    firsts_defer (pair_cmp g.Q.Kind.kind g.V.Ord.cmp) _ _ _ _ _ _ h.0 h.1 c.then_with-found.result h.2 defers ∙ c.pairs.invariant
