use Rattle.std.proofs.Common.{◌≡◌, ◌∙◌, List, [], ◌∷◌, ◌++◌, Option, Some, None, ap, append_assoc, append-nil, subst, sym}
use Rattle.std.proofs.lemmas.List.{nil_from_length}
use Rattle.std.specs.Map.Iter.{TakesLast, deref_pair}
use Rattle.std.specs.Slice.Iter.{iter_rest}
use Rattle.rangemap_chunked.specs.Chunks.{whole}
use Rattle.rangemap_chunked.proofs.ChunkLemmas.{last_filled}
use Rattle.rangemap_chunked.proofs.EndLemmas.{last_of_chunk}
use Rattle.rangemap_chunked.proofs.iter.IterCursor.take_last.Goals as goal

-- the last of what is left at the back
behind : {X : Type 0} (front middle back left : List X) (x : X) → back ≡ left ++ x ∷ [] → front ++ (middle ++ back) ≡ (front ++ (middle ++ left)) ++ x ∷ []
behind front middle back left x is = (λ i. front ++ (middle ++ is i)) ∙ simp append_assoc

front_alone : {X : Type 0} (front middle back : List X) → middle ≡ [] → back ≡ [] → front ++ (middle ++ back) ≡ front
front_alone front middle back no_middle no_back = (λ i. front ++ (no_middle i ++ no_back i)) ∙ append-nil front

-- the last of what is left at the front, where nothing else is
alone : {A X : Type 0} (shows : A → X) (front left middle back begun : List X) (result : Option A) → middle ≡ [] → back ≡ [] → begun ≡ [] → TakesLast shows front result left → TakesLast shows (front ++ (middle ++ back)) result (left ++ (middle ++ begun))
alone shows front left middle back begun None no_middle no_back no_begun taken = (front_alone front middle back no_middle no_back ∙ taken.0, front_alone left middle begun no_middle no_begun ∙ taken.1)
alone shows front left middle back begun (Some x) no_middle no_back no_begun taken = front_alone front middle back no_middle no_back ∙ taken ∙ (λ i. sym (front_alone left middle begun no_middle no_begun) i ++ shows x ∷ [])

pub invariant_of-self-in-Some-split_last : goal.invariant_of-self-in-Some-split_last
invariant_of-self-in-Some-split_last g c =
    last_filled c.self.inside.chunks.now c.in-Some-split_last.rest.now c.in-Some-split_last.chunk.now c.in-Some-split_last.ensures.cases.0 c.self.invariant

pub returns-in-Some : goal.returns-in-Some
returns-in-Some g c =
    sym c.self.view_is ∙ behind (iter_rest c.self.inside.front) (whole c.self.inside.chunks.now) (iter_rest c.self.inside.back) (iter_rest c.take_last.new.self) (deref_pair c.in-Some.pair) c.in-Some.ensures

pub returns-in-Some-split_last : goal.returns-in-Some-split_last
returns-in-Some-split_last g c =
    let taken = c.take_last-in-Some-split_last in
    let begun = c.iter-self-inside.ensures.rest ∙ c.as_slice.ensures in
    subst (λ (all : List (g.row.R.Denot × g.row.V.Denot)). TakesLast deref_pair all taken.result (iter_rest c.self.inside.front ++ (whole c.in-Some-split_last.rest.now ++ iter_rest taken.new.self))) c.self.view_is
    (last_of_chunk deref_pair c.self.inside.chunks.now c.in-Some-split_last.rest.now (iter_rest c.self.inside.front) c.in-Some-split_last.chunk.now (iter_rest c.self.inside.back) (iter_rest taken.new.self) taken.result
    c.in-Some-split_last.ensures.cases.0 c.self.invariant c.in_default.ensures.0 (subst (λ (xs : List (g.row.R.Denot × g.row.V.Denot)). TakesLast deref_pair xs taken.result (iter_rest taken.new.self)) begun taken.ensures))

pub returns : goal.returns
returns g c =
    subst (λ (all : List (g.row.R.Denot × g.row.V.Denot)). TakesLast deref_pair all c.take_last-2.result (iter_rest c.take_last-2.new.self ++ (whole c.self.inside.chunks.now ++ iter_rest c.take_last.new.self))) c.self.view_is
    (alone deref_pair (iter_rest c.self.inside.front) (iter_rest c.take_last-2.new.self) (whole c.self.inside.chunks.now) (iter_rest c.self.inside.back) (iter_rest c.take_last.new.self) c.take_last-2.result
    (ap (λ (ps : List (List (g.row.R.Denot × g.row.V.Denot))). whole ps) (nil_from_length c.self.inside.chunks.now c.in_default-split_last.ensures.cases)) c.in_default.ensures.0 c.in_default.ensures.1 c.take_last-2.ensures)
