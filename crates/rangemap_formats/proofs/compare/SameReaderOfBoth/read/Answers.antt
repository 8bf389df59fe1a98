use Rattle.std.proofs.Common.{rules, ◌≡◌, ◌∷◌, ◌∙◌, false, sym, true}
use Rattle.rangemap_core.specs.Shown.{shown}
use Rattle.rangemap_core.specs.Ranges.{same_pair}
use Rattle.rangemap_formats.proofs.CompareLemmas.{agree, differ}
use Rattle.rangemap_formats.proofs.compare.SameReaderOfBoth.read.Goals.{After-is_same}
use Rattle.rangemap_formats.proofs.compare.SameReaderOfBoth.read.Goals as goal

-- the pairs that were taken, and whether they are the same
taken : (g : _) (c : After-is_same g)
    → (g.C.Cursor.left c.pairs.left ≡ (shown g.C.Cursor.given g.C.Cursor.given_value c.in-Some.left_pair) ∷ g.C.Cursor.left c.take_first.new.self)
    × (g.C.Cursor.left c.pairs.right ≡ (shown g.C.Cursor.given g.C.Cursor.given_value c.in-Some-take_first.right_pair) ∷ g.C.Cursor.left c.take_first-in-Some.new.self)
    × (c.is_same.result ≡ same_pair g.Q.Kind.kind g.V.PartialEq.eq (shown g.C.Cursor.given g.C.Cursor.given_value c.in-Some.left_pair) (shown g.C.Cursor.given g.C.Cursor.given_value c.in-Some-take_first.right_pair))
taken g c =
    let same = same_pair g.Q.Kind.kind g.V.PartialEq.eq in (
      rw c.in-Some.is at c.take_first.ensures,
      rw c.in-Some-take_first.is at c.take_first-in-Some.ensures,
      c.is_same.ensures ∙ (λ i. same (c.parts.ensures.range i, c.parts.ensures.value i) (c.parts-in-Some.ensures.range i, c.parts-in-Some.ensures.value i)),
    )

pub returns-then-not-is_same : goal.returns-then-not-is_same
returns-then-not-is_same g c =
    let h = taken g (goal.at.returns-then-not-is_same g c).After-is_same in
    let not_same : c.is_same.result ≡ false = search rules in
    differ (same_pair g.Q.Kind.kind g.V.PartialEq.eq) _ _ _ _ _ _ h.0 h.1 (sym h.2 ∙ not_same) ∙ c.pairs.invariant

pub pairs-preserved : goal.pairs-preserved
pairs-preserved g c =
    let h = taken g (goal.at.pairs-preserved g c).After-is_same in
    let is_same : c.is_same.result ≡ true = search rules in
    agree (same_pair g.Q.Kind.kind g.V.PartialEq.eq) _ _ _ _ _ _ h.0 h.1 (sym h.2 ∙ is_same) ∙ c.pairs.invariant
