use Rattle.std.proofs.Common.{Bool, true, false, ap, not, refl, sym, ◌≡◌, ◌&&◌, ◌||◌, ◌∙◌}
use Rattle.rangemap.proofs.SetCallerLemmas.{equal_sets, placed_characters}
use Rattle.examples.specs.CharClass.{has}
use Rattle.examples.proofs.char_class.de_morgan.Goals as goal

not_or : (a b : Bool) → not (a || b) ≡ (not a && not b)
not_or true b = refl
not_or false b = refl

pub returns-clause-neither : goal.returns-clause-neither
returns-clause-neither c = record { canonical = c.in_ok-left.ensures.canonical; points = λ at key. c.in_ok-left.ensures.points at key ∙ ap not (c.in_ok-union.ensures.points at key) }

pub returns-clause-not_both : goal.returns-clause-not_both
returns-clause-not_both c = record {
  canonical = c.in_ok-right.ensures.canonical;
  points = λ at key. c.in_ok-right.ensures.points at key ∙ ap (λ b. b && has c.in_ok-complement-2.field-0.members at) (c.in_ok-complement.ensures.points at key) ∙ ap (λ b. not (has c.args.one.now.members at) && b) (c.in_ok-complement-2.ensures.points at key);
}

pub returns-clause-equal : goal.returns-clause-equal
returns-clause-equal c =
    equal_sets placed_characters c.in_ok-left.left.members c.in_ok-right.right.members c.in_ok-left.ensures.canonical c.in_ok-right.ensures.canonical
    (λ at key.
    c.in_ok-left.ensures.points at key ∙ ap not (c.in_ok-union.ensures.points at key)
    ∙ not_or (has c.args.one.now.members at) (has c.args.other.now.members at)
    ∙ ap (λ b. b && not (has c.args.other.now.members at)) (sym (c.in_ok-complement.ensures.points at key))
    ∙ ap (λ b. has c.in_ok-complement.field-0.members at && b) (sym (c.in_ok-complement-2.ensures.points at key))
    ∙ sym (c.in_ok-right.ensures.points at key))
