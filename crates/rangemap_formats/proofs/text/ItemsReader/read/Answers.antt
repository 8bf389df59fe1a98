use Rattle.std.proofs.Common.{◌≡◌, ◌∷◌, Some, codes, Ok, refl}
use Rattle.std.specs.Fmt.{◌++?◌}
use Rattle.rangemap_core.specs.Shown.{shown}
use Rattle.rangemap_formats.specs.Texts.{others_text}
use Rattle.rangemap_formats.proofs.DisplayLemmas.{displays_from, shows_nothing, shows_then, shows_twin}
use Rattle.rangemap_formats.proofs.text.ItemsReader.read.Goals as goal

pub pairs-preserved : goal.pairs-preserved
pairs-preserved g c h plain k =
    let took = g.W.Write.write_str_gives in
    let text = g.T.PairText.text in
    let pair = shown g.C.Cursor.given g.C.Cursor.given_value c.in-Some-take_first.pair in
    let others = g.C.Cursor.left c.take_first-in-pairs.new.self in
    let taken : g.C.Cursor.left c.pairs.rest ≡ pair ∷ others = rw c.in-Some-take_first.is at c.take_first-in-pairs.ensures in
    let read : text (c.parts-in-Some-take_first.result.0.now, c.parts-in-Some-take_first.result.1.now) ≡ text pair = λ i. text (c.parts-in-Some-take_first.ensures.range i, c.parts-in-Some-take_first.ensures.value i) in
    c.pairs.invariant h plain (λ p.
    rw taken (shows_then took c.pairs.f c.write_str.new.self h (Some (codes ", ")) (text pair ++? others_text text others)
    (c.in_ok-write_str.ensures.writes p refl)
    (λ q. shows_then took c.write_str.new.self c.write_pair-in-Some-take_first.new.f h (text pair) (others_text text others)
    (shows_twin took c.write_str.new.self c.write_pair-in-Some-take_first.new.f (Ok tt) (text (c.parts-in-Some-take_first.result.0.now, c.parts-in-Some-take_first.result.1.now)) (text pair) read c.in_ok-write_pair-2.ensures q refl) k)))

pub returns : goal.returns
returns g c =
    let took = g.W.Write.write_str_gives in
    let text = g.T.PairText.text in
    let pair = shown g.C.Cursor.given g.C.Cursor.given_value c.in-Some.first in
    let others = g.C.Cursor.left c.take_first.new.self in
    let taken : g.C.Cursor.left c.args.pairs ≡ pair ∷ others = rw c.in-Some.is at c.take_first.ensures in
    let read : text (c.parts.result.0.now, c.parts.result.1.now) ≡ text pair = λ i. text (c.parts.ensures.range i, c.parts.ensures.value i) in
    let ended = rw c.in_default-take_first.is at c.take_first-in-pairs.ensures in
    rw taken (displays_from took c.args.f.now c.pairs.f (Ok tt) (text pair ++? others_text text others) (λ plain ok.
    shows_then took c.args.f.now c.write_pair.new.f c.pairs.f (text pair) (others_text text others)
    (shows_twin took c.args.f.now c.write_pair.new.f (Ok tt) (text (c.parts.result.0.now, c.parts.result.1.now)) (text pair) read c.in_ok-write_pair.ensures plain refl)
    (λ p. c.pairs.invariant c.pairs.f p (λ q. rw ended.0 (shows_nothing took c.pairs.f q)))))
