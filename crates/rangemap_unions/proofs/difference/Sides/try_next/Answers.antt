use Rattle.std.proofs.Common.{◌≡◌, ◌∷◌, ◌∙◌, ap, option_map, sym}
use Rattle.rangemap_core.specs.Sets.{ranges}
use Rattle.rangemap_core.specs.Shown.{shown_range}
use Rattle.rangemap_core.specs.engine.Endpoints.{endpoint_of, part_before}
use Rattle.rangemap_unions.specs.Parts.{parts_behind, parts_left}
use Rattle.rangemap_unions.proofs.StepLemmas.{next_shown, not_over, on_err, part_passed, part_taken, step}
use Rattle.rangemap_unions.proofs.difference.Sides.try_next.Goals.{After-end_of}
use Rattle.rangemap_unions.proofs.difference.Sides.try_next.Goals as goal

-- the left list begins with the range that is looked at
first : (g : _) (c : After-end_of g) → ranges (g.C.Cursor.left c.parts.self.left) ≡ c.parts-in-Some.result.0.now ∷ ranges c.in-Some.ensures.first.0
first g c = rw c.parts-in-Some.ensures.range (ap ranges c.in-Some.ensures.first.1)

-- what was passed of the right list leaves no part out
same : (g : _) (c : After-end_of g)
    → parts_left g.Q.Kind.kind g.Q.Kind.end_place g.Q.Kind.part_of (option_map (shown_range g.C.Cursor.given) c.args.self.now.passed) (ranges (g.C.Cursor.left c.args.self.now.left)) (ranges (g.C.Cursor.left c.args.self.now.right))
    ≡ parts_left g.Q.Kind.kind g.Q.Kind.end_place g.Q.Kind.part_of (option_map (shown_range g.C.Cursor.given) c.parts.self.passed) (ranges (g.C.Cursor.left c.parts.self.left)) (ranges (g.C.Cursor.left c.next_behind-next.new.right))
same g c =
    let left = g.C.Cursor.left in
    let passed = option_map (shown_range g.C.Cursor.given) c.parts.self.passed in
    let parts = parts_left g.Q.Kind.kind g.Q.Kind.end_place g.Q.Kind.part_of passed in
    c.parts.invariant
    ∙ ap (λ ps. parts ps (ranges (left c.parts.self.right))) (first g c)
    ∙ c.next_behind-next.ensures.parts passed _ _ c.start_of-from.ensures
    ∙ ap (λ ps. parts ps (ranges (left c.next_behind-next.new.right))) (sym (first g c))

-- the part that may be free comes first, and then what is behind it
found : (g : _) (c : After-end_of g)
    → parts_left g.Q.Kind.kind g.Q.Kind.end_place g.Q.Kind.part_of (option_map (shown_range g.C.Cursor.given) c.args.self.now.passed) (ranges (g.C.Cursor.left c.args.self.now.left)) (ranges (g.C.Cursor.left c.args.self.now.right))
    ≡ part_before g.Q.Kind.kind g.Q.Kind.end_place g.Q.Kind.part_of (endpoint_of c.start_of-from.result) (endpoint_of c.end_of.result) (parts_behind g.Q.Kind.kind g.Q.Kind.end_place g.Q.Kind.part_of c.parts-in-Some.result.0.now (ranges c.in-Some.ensures.first.0) (ranges (g.C.Cursor.left c.next_behind-next.new.right)))
found g c =
    let k = g.Q.Kind.kind in
    let end_place = g.Q.Kind.end_place in
    let next = next_shown k end_place g.C.Cursor.given g.C.Cursor.given_value (endpoint_of c.start_of-from.result) c.next_behind-next.result _ c.next_behind-next.ensures.next in
    same g c ∙ step k end_place g.Q.Kind.part_of _ _ _ _ _ _ _ _ (first g c) c.start_of-from.ensures c.end_of.ensures next

pub pass-requires-clause-first : goal.pass-requires-clause-first
pass-requires-clause-first g c = (ranges c.in-Some.ensures.first.0, ap ranges c.in-Some.ensures.same ∙ rw c.parts-in-Some.ensures.range (ap ranges c.in-Some.ensures.first.1))

pub returns-then-is_some-clause-ok : goal.returns-then-is_some-clause-ok
returns-then-is_some-clause-ok g c =
    let at = (goal.at.returns-then-is_some-clause-ok g c).After-end_of in
    let rest = c.pass.ensures.rest _ (ap ranges c.in-Some.ensures.same ∙ first g at) in
    part_taken g.Q.Kind.kind g.Q.Kind.end_place g.Q.Kind.part_of _ _ _ _ _ c.in_ok-part.part (found g at) rest c.in_ok-part.ensures.ok (sym c.is_some.ensures ∙ c.if-is_some.true)

pub parts-preserved : goal.parts-preserved
parts-preserved g c =
    let at = (goal.at.parts-preserved g c).After-end_of in
    let rest = c.pass.ensures.rest _ (ap ranges c.in-Some.ensures.same ∙ first g at) in
    part_passed g.Q.Kind.kind g.Q.Kind.end_place g.Q.Kind.part_of _ _ _ _ _ c.in_ok-part.part (found g at) rest c.in_ok-part.ensures.ok (sym c.is_some.ensures ∙ c.if-is_some.false)

pub returns-in_err-part-clause-err : goal.returns-in_err-part-clause-err
returns-in_err-part-clause-err g c =
    let parts = parts_left g.Q.Kind.kind g.Q.Kind.end_place g.Q.Kind.part_of (option_map (shown_range g.C.Cursor.given) c.parts.self.passed) in
    on_err c.from_residual.result (ap (λ ps. parts (ranges ps) (ranges (g.C.Cursor.left c.next_behind-next.new.right))) c.peek.ensures.same ∙ sym (same g (goal.at.returns-in_err-part-clause-err g c).After-end_of))

pub returns-in_err-part-clause-refused : goal.returns-in_err-part-clause-refused
returns-in_err-part-clause-refused g c =
    on_err c.from_residual.result (not_over g.Q.Kind.kind g.Q.Kind.end_place g.Q.Kind.part_of _ _ _ _ (found g (goal.at.returns-in_err-part-clause-refused g c).After-end_of) c.in_err-part.ensures.err)
