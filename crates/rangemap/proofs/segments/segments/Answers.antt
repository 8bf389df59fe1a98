use Rattle.std.proofs.Common.{◌≡◌, Bool, false, true, List, [], Option, Some, ap, is_lt, refl, sym, ◌∙◌, true≢false}
use Rattle.std.specs.Cmp.{first_so, second_so}
use Rattle.std.specs.Cmp.Derive.{both_true}
use Rattle.std.specs.Option.{option_eq}
use Rattle.rangemap_core.specs.Ranges.{RangeKind, IsCanonOf, value_at}
use Rattle.rangemap_core.specs.Segments.{segments_of}
use Rattle.rangemap_core.specs.engine.EndpointKinds.{lt_is}
use Rattle.rangemap_core.specs.engine.Endpoints.{AtEnd, AtStart, EndpointOf, IsAsked, IsPlaced, is_before}
use Rattle.rangemap_core.specs.engine.PlacedKinds.{place_total}
use Rattle.rangemap_core.specs.laws.Orders.{itself, le_Equal, le_lt}
use Rattle.rangemap.proofs.segments.segments.Goals as goal

module _ {K X : Type 0} (k : RangeKind K X) {end_place : X → Option K} {part : EndpointOf X → EndpointOf X → X} (p : IsPlaced k end_place part) (q : X) (q_asked : IsAsked k q) where
  holds_none : is_before k end_place (AtStart q) (AtEnd q) ≡ false → (x : K) → k.is_key x → k.holds q x ≡ false
  holds_none empty x key = go (k.holds q x) refl
    where
      go : (b : Bool) → k.holds q x ≡ b → k.holds q x ≡ false
      go true h =
          let both = sym (p.holds q x q_asked key) ∙ h in
          absurd (true≢false (sym (ap is_lt (le_lt (place_total p.total) {a = Some (k.start q)} {b = Some x} {c = end_place q} (first_so _ _ both) (lt_is _ (second_so _ _ both)))) ∙ empty))
      go false h = h

  -- a range without keys has no parts
  no_parts : {V : Type 0} (eq : V → V → Bool) (f : K → Option V) → is_before k end_place (AtStart q) (AtEnd q) ≡ false → (all : List (X × Option V)) → all ≡ [] → IsCanonOf k (option_eq eq) (segments_of k f q) all
  no_parts eq f empty all none = rw none (record { canonical = tt; represents = λ x key. rw (holds_none empty x key) refl })

  -- a range that goes from its start up to its end has its start
  not_none : is_before k end_place (AtStart q) (AtEnd q) ≡ true → ((x : K) → k.is_key x → k.holds q x ≡ false) → ⊥
  not_none some none =
      let here = p.holds q (k.start q) q_asked q_asked.start_is_key ∙ both_true (le_Equal (itself p.total (k.start q))) some in
      true≢false (sym here ∙ none (k.start q) q_asked.start_is_key)

pub returns-then-is_before-clause-of_nothing : goal.returns-then-is_before-clause-of_nothing
returns-then-is_before-clause-of_nothing g c = λ none. absurd (not_none g.M.Kind.Kind.kind g.met.M.Kind.Kind.placed c.args.query.now c.known_ends.ensures (sym c.is_before.ensures ∙ c.if-is_before.true) none)

pub returns-else-is_before-clause-parts : goal.returns-else-is_before-clause-parts
returns-else-is_before-clause-parts g c =
    let k = g.M.Kind.Kind.kind in
    no_parts k g.met.M.Kind.Kind.placed c.args.query.now c.known_ends.ensures g.M.Value.PartialEq.eq (value_at k (g.M.Container.pairs c.args.container.now)) (sym c.is_before.ensures ∙ c.if-is_before.false) c.new_with_step_fns.result c.new_with_step_fns.ensures
