use Rattle.std.proofs.Common.{arith, ◌≡◌, ◌<◌, ◌∙◌, List, [], ◌∷◌, ◌++◌, MatchOption, Option, Some, None, ap, append_assoc, length, subst, sym}
use Rattle.std.proofs.lemmas.List.{nil_from_length}
use Rattle.std.specs.Map.Iter.{deref_pair}
use Rattle.std.specs.Slice.Iter.{iter_rest}
use Rattle.rangemap_chunked.specs.Chunks.{AreFilled, whole}
use Rattle.rangemap_chunked.proofs.iter.IterPeek.peek.Goals as goal

-- the first of a chunk that has pairs is that of all
first_of : {A X : Type 0} (shows : A → X) (all chunk more : List X) (result : Option A) → all ≡ chunk ++ more → 0 < length chunk → MatchOption result (chunk ≡ []) (λ a. (x : List X) × (chunk ≡ shows a ∷ x)) → MatchOption result (all ≡ []) (λ a. (x : List X) × (all ≡ shows a ∷ x))
first_of shows all chunk more None is some none = let one : length chunk ≡ 0 = ap length none in absurd (omega (arith, some, one))
first_of shows all chunk more (Some a) is some first = (first.0 ++ more, is ∙ (λ i. first.1 i ++ more))

pub invariant_of-self-in-Some-split_first : goal.invariant_of-self-in-Some-split_first
invariant_of-self-in-Some-split_first g c = (subst AreFilled c.in-Some-split_first.ensures.cases.0 c.self.invariant).1

pub returns-in-Some : goal.returns-in-Some
returns-in-Some g c =
    let more = whole c.self.inside.chunks.now ++ iter_rest c.self.inside.back in
    record {
      same = (λ i. c.in-Some.ensures.same i ++ more) ∙ c.self.view_is;
      first = (c.in-Some.ensures.first.0 ++ more, sym c.self.view_is ∙ (λ i. c.in-Some.ensures.first.1 i ++ more));
    }

pub returns-in-Some-split_first : goal.returns-in-Some-split_first
returns-in-Some-split_first g c =
    let back = iter_rest c.self.inside.back in
    let parts = c.in-Some-split_first.ensures.cases.0 in
    let chunk = c.in-Some-split_first.chunk.now in
    let more = whole c.in-Some-split_first.rest.now ++ back in
    let begun = c.iter-self-inside.ensures.rest ∙ c.as_slice.ensures in
    let all_is : c.args.self.now ≡ chunk ++ more = sym c.self.view_is ∙ (λ i. c.in_default.ensures.first i ++ (whole (parts i) ++ back)) ∙ append_assoc chunk (whole c.in-Some-split_first.rest.now) back in
    record {
      same = (λ i. c.peek-in-Some-split_first.ensures.same i ++ more) ∙ (λ i. begun i ++ more) ∙ sym all_is;
      first = first_of deref_pair c.args.self.now (iter_rest c.iter-self-inside.result) more c.peek-in-Some-split_first.result (all_is ∙ (λ i. sym begun i ++ more)) (subst (λ (xs : List (g.row.R.Denot × g.row.V.Denot)). 0 < length xs) (sym begun) (subst AreFilled parts c.self.invariant).0) c.peek-in-Some-split_first.ensures.first;
    }

pub returns : goal.returns
returns g c =
    let none = ap (λ (ps : List (List (g.row.R.Denot × g.row.V.Denot))). whole ps) (nil_from_length c.self.inside.chunks.now c.in_default-split_first.ensures.cases) in
    let all_is : c.args.self.now ≡ iter_rest c.self.inside.back = sym c.self.view_is ∙ (λ i. c.in_default.ensures.first i ++ (none i ++ iter_rest c.self.inside.back)) in
    record {
      same = (λ i. c.in_default.ensures.same i ++ (whole c.self.inside.chunks.now ++ c.peek-2.ensures.same i)) ∙ c.self.view_is;
      first = subst (λ (all : List (g.row.R.Denot × g.row.V.Denot)). MatchOption c.peek-2.result (all ≡ []) (λ pair. (x : List (g.row.R.Denot × g.row.V.Denot)) × (all ≡ deref_pair pair ∷ x))) (sym all_is) c.peek-2.ensures.first;
    }
