use Rattle.std.proofs.Common.{arith, ◌≡◌, subst}
use Rattle.std.proofs.lemmas.List.Elements.{All-push, All-weaker}
use Rattle.examples.specs.BlockList.{IsBlock, IsLargest, Tile}
use Rattle.examples.proofs.CidrLemmas.{Tile-last, largest_are_fewest}
use Rattle.examples.proofs.block_list.split.Goals as goal

pub split-preserved : goal.split-preserved
split-preserved c =
    let block = c.largest-block.result in
    let largest = c.largest-block.ensures.largest in (
      omega (arith, largest.within, c.largest-block.ensures.starts, c.size-at.ensures),
      rw (c.size-at.ensures, c.in_ok-push.ensures.items) (Tile-last c.args.start c.split.at c.split.blocks.items block c.split.invariant.1 c.largest-block.ensures.starts),
      rw c.in_ok-push.ensures.items (All-push (IsLargest c.args.end) c.split.blocks.items block c.split.invariant.2 largest),
    )

pub returns-clause-aligned : goal.returns-clause-aligned
returns-clause-aligned c = All-weaker (IsLargest c.args.end) IsBlock (λ block is. is.is_block) c.split.blocks.items c.split.invariant.2

pub returns-clause-fewest : goal.returns-clause-fewest
returns-clause-fewest c =
    let all : c.split.at ≡ c.args.end = omega (arith, c.split-test.false, c.split.invariant.0) in
    largest_are_fewest c.args.start c.args.end c.split.blocks.items (subst (λ at. Tile c.args.start at c.split.blocks.items) all c.split.invariant.1) c.split.invariant.2
