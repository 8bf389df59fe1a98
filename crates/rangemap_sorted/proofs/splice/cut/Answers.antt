use Rattle.std.proofs.Common.{arith, ap, drop, length, length-drop, sym, take, take_all, ◌∙◌, ◌≡◌, ◌≤◌, ◌-◌, ◌++◌}
use Rattle.rangemap_sorted.proofs.SpliceLemmas.{closed_up}
use Rattle.rangemap_sorted.proofs.splice.cut.Goals as goal

pub returns-then-start-end-clause-items : goal.returns-then-start-end-clause-items
returns-then-start-end-clause-items g c =
    let xs = c.deref_mut.result.now in
    let start = c.args.places.start in
    let end = c.args.places.end in
    let count = end - start in
    let rest : take (length xs - start) (drop start xs) ≡ drop start xs = take_all (length xs - start) (drop start xs) (omega (arith, length-drop start xs)) in
    let within : end ≤ length xs = omega (arith, c.deref_mut.ensures.len, c.requires.in_bounds) in
    let kept = sym (ap (λ zs. take (length zs - count) c.close_gap.new.list) rest) ∙ c.close_gap.ensures.kept ∙ ap (drop count) rest in
    let stays = closed_up xs c.close_gap.new.list _ _ start end c.args.list.now.len (c.len-len.result - count) c.requires.start_le_end within (sym c.deref_mut.ensures.len) (omega (arith, c.len-len.ensures, c.deref_mut.ensures.len)) kept in
    c.truncate.ensures.items ∙ stays ∙ ap (λ zs. take start zs ++ drop end zs) c.deref_mut.ensures.value
