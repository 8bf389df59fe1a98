use Rattle.std.proofs.Common.{rules, arith, ◌≡◌, ◌<◌, ◌∷◌, ◌∙◌, ap, length, refl, subst, take}
use Rattle.rangemap_core.specs.Appends.{AppendsOne}
use Rattle.rangemap_core.specs.Shown.{shown}
use Rattle.rangemap_core.proofs.AppendLemmas.{cut_back, next_stored, so_far-all, so_far-next, so_far-none}
use Rattle.rangemap_containers.proofs.NothingLemmas.{appended_none, none_to_come}
use Rattle.rangemap_containers.proofs.container.appends.AppendingReader.read.Goals as goal

pub pairs-init : goal.pairs-init
pairs-init g c = so_far-none g.Q.Kind.kind g.V.PartialEq.eq (g.C.Cursor.left c.args.pairs) c.args.out.now.items c.requires.0

pub append_clone-requires-clause-stored : goal.append_clone-requires-clause-stored
append_clone-requires-clause-stored g c =
    let taken : g.C.Cursor.left c.pairs.rest ≡ shown g.C.Cursor.given g.C.Cursor.given_value c.in-Some.pair ∷ g.C.Cursor.left c.take_first.new.self = rw c.in-Some.is at c.take_first.ensures in
    rw c.parts.ensures.range
    (next_stored g.Q.Kind.kind g.V.PartialEq.eq (g.C.Cursor.left c.args.pairs) (g.C.Cursor.left c.pairs.rest) c.args.out.now.items c.pairs.out.items (shown g.C.Cursor.given g.C.Cursor.given_value c.in-Some.pair) (g.C.Cursor.left c.take_first.new.self) c.pairs.invariant taken)

pub pairs-smaller : goal.pairs-smaller
pairs-smaller g c =
    let taken : g.C.Cursor.left c.pairs.rest ≡ shown g.C.Cursor.given g.C.Cursor.given_value c.in-Some.pair ∷ g.C.Cursor.left c.take_first.new.self = rw c.in-Some.is at c.take_first.ensures in
    let fewer : length (g.C.Cursor.left c.take_first.new.self) < length (g.C.Cursor.left c.pairs.rest) = omega (arith, ap length taken) in
    fewer

pub pairs-preserved : goal.pairs-preserved
pairs-preserved g c =
    let k = g.Q.Kind.kind in
    let eq = g.V.PartialEq.eq in
    let pair = shown g.C.Cursor.given g.C.Cursor.given_value c.in-Some.pair in
    let taken : g.C.Cursor.left c.pairs.rest ≡ pair ∷ g.C.Cursor.left c.take_first.new.self = rw c.in-Some.is at c.take_first.ensures in
    let one : AppendsOne k eq (c.parts.result.0.now, c.parts.result.1.now) c.pairs.out.items c.append_clone.new.out.items = search rules in
    let same : AppendsOne k eq pair c.pairs.out.items c.append_clone.new.out.items =
    subst (λ (p : g.row.R.Denot × g.row.V.Denot). AppendsOne k eq p c.pairs.out.items c.append_clone.new.out.items) (λ i. (c.parts.ensures.range i, c.parts.ensures.value i)) one in
    so_far-next k eq (g.C.Cursor.left c.args.pairs) (g.C.Cursor.left c.pairs.rest) c.args.out.now.items c.pairs.out.items c.append_clone.new.out.items pair (g.C.Cursor.left c.take_first.new.self) c.pairs.invariant taken same

pub returns : goal.returns
returns g c =
    let k = g.Q.Kind.kind in
    let eq = g.V.PartialEq.eq in
    let ended = rw c.in_default.is at c.take_first.ensures in
    let all = so_far-all k eq (g.C.Cursor.left c.args.pairs) (g.C.Cursor.left c.pairs.rest) c.args.out.now.items c.pairs.out.items c.pairs.invariant ended.0 in
    (all, tt, λ none. (refl, appended_none k eq _ _ _ none all))

pub returns-in-Err : goal.returns-in-Err
returns-in-Err g c =
    let k = g.Q.Kind.kind in
    let eq = g.V.PartialEq.eq in
    let pair = shown g.C.Cursor.given g.C.Cursor.given_value c.in-Some.pair in
    let taken : g.C.Cursor.left c.pairs.rest ≡ pair ∷ g.C.Cursor.left c.take_first.new.self = rw c.in-Some.is at c.take_first.ensures in
    let kept : c.append_clone.new.out.items ≡ c.pairs.out.items = search rules in
    let place : c.len-len.result ≡ length c.args.out.now.items = search rules in (
      tt,
      cut_back k eq c.pairs.invariant.0 c.args.out.now.items c.pairs.out.items c.truncate.new.self.items c.len-len.result c.pairs.invariant.2 place (c.truncate.ensures.items ∙ ap (λ xs. take c.len-len.result xs) kept),
      λ none. absurd (none_to_come k eq _ _ _ _ _ _ none c.pairs.invariant taken),
    )
