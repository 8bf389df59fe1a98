use Rattle.std.proofs.Common.{arith, ap, not, subst, sym, [], ◌&&◌, ◌∙◌}
use Rattle.rangemap.specs.CharLaws.{IsChar}
use Rattle.rangemap.proofs.Loops.{asks_for_gaps}
use Rattle.rangemap.proofs.NumberKinds.{closed_holds, unsigned}
use Rattle.rangemap.proofs.SetCallerLemmas.{AreInserted, below_last_character, gaps_inserted, none_inserted, one_more_inserted, placed_characters}
use Rattle.examples.specs.CharClass.{characters, has}
use Rattle.examples.proofs.char_class.CharClass.complement.Goals as goal

pub loop-gap-init : goal.loop-gap-init
loop-gap-init c = subst (AreInserted characters []) (sym c.new-members.ensures) (none_inserted characters)

pub loop-gap-preserved : goal.loop-gap-preserved
loop-gap-preserved c = one_more_inserted c.loop-gap.invariant c.in_ok-gap.was c.in_ok-insert.ensures.ok

pub returns : goal.returns
returns c =
    let are = gaps_inserted placed_characters c.args.self.now.members c.new-all.result (search asks_for_gaps) c.loop-gap.invariant c.in-None.is in
    record {
      canonical = are.canonical;
      points = λ at key. are.points at key ∙ ap (λ b. b && not (has c.args.self.now.members at)) (closed_holds unsigned IsChar c.new-all.result at (omega (arith, c.new-all.ensures.start)) (omega (arith, c.new-all.ensures.end, below_last_character at key)));
    }
