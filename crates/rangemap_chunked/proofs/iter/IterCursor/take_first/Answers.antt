use Rattle.std.proofs.Common.{arith, ◌≡◌, ◌∙◌, List, [], ◌∷◌, ◌++◌, Option, Some, None, ap, append_assoc, length, subst, sym}
use Rattle.std.proofs.lemmas.List.{nil_from_length}
use Rattle.std.specs.Map.Iter.{TakesFirst, deref_pair}
use Rattle.std.specs.Slice.Iter.{iter_rest}
use Rattle.rangemap_chunked.specs.Chunks.{AreFilled, whole}
use Rattle.rangemap_chunked.proofs.iter.IterCursor.take_first.Goals as goal

-- the first of a chunk, where nothing is left before it
first_whole : {X : Type 0} (chunks rest : List (List X)) (front chunk left back : List X) (x : X) → chunks ≡ chunk ∷ rest → front ≡ [] → chunk ≡ x ∷ left → front ++ (whole chunks ++ back) ≡ x ∷ (left ++ (whole rest ++ back))
first_whole chunks rest front chunk left back x parts none is = (λ i. none i ++ (whole (parts i) ++ back)) ∙ append_assoc chunk (whole rest) back ∙ (λ i. is i ++ (whole rest ++ back))

of_chunk : {A X : Type 0} (shows : A → X) (chunks rest : List (List X)) (front chunk back left : List X) (result : Option A) → chunks ≡ chunk ∷ rest → AreFilled chunks → front ≡ [] → TakesFirst shows chunk result left → TakesFirst shows (front ++ (whole chunks ++ back)) result (left ++ (whole rest ++ back))
of_chunk shows chunks rest front chunk back left None is filled none taken = let some = (subst AreFilled is filled).0 in let size = ap length taken.0 in absurd (omega (arith, some, size))
of_chunk shows chunks rest front chunk back left (Some x) is filled none taken = first_whole chunks rest front chunk left back (shows x) is none taken

-- the first of what is left at the back, where nothing else is
alone : {A X : Type 0} (shows : A → X) (front begun middle back left : List X) (result : Option A) → front ≡ [] → begun ≡ [] → middle ≡ [] → TakesFirst shows back result left → TakesFirst shows (front ++ (middle ++ back)) result (begun ++ (middle ++ left))
alone shows front begun middle back left None no_front no_begun no_middle taken = ((λ i. no_front i ++ (no_middle i ++ taken.0 i)), (λ i. no_begun i ++ (no_middle i ++ taken.1 i)))
alone shows front begun middle back left (Some x) no_front no_begun no_middle taken = (λ i. no_front i ++ (no_middle i ++ taken i)) ∙ (λ i. shows x ∷ (sym no_begun i ++ (sym no_middle i ++ left)))

pub invariant_of-self-in-Some-split_first : goal.invariant_of-self-in-Some-split_first
invariant_of-self-in-Some-split_first g c = (subst AreFilled c.in-Some-split_first.ensures.cases.0 c.self.invariant).1

pub returns-in-Some : goal.returns-in-Some
returns-in-Some g c =
    sym c.self.view_is ∙ (λ i. c.in-Some.ensures i ++ (whole c.self.inside.chunks.now ++ iter_rest c.self.inside.back))

pub returns-in-Some-split_first : goal.returns-in-Some-split_first
returns-in-Some-split_first g c =
    let taken = c.take_first-in-Some-split_first in
    let begun = c.iter-self-inside.ensures.rest ∙ c.as_slice.ensures in
    subst (λ (all : List (g.row.R.Denot × g.row.V.Denot)). TakesFirst deref_pair all taken.result (iter_rest taken.new.self ++ (whole c.in-Some-split_first.rest.now ++ iter_rest c.self.inside.back))) c.self.view_is
    (of_chunk deref_pair c.self.inside.chunks.now c.in-Some-split_first.rest.now (iter_rest c.self.inside.front) c.in-Some-split_first.chunk.now (iter_rest c.self.inside.back) (iter_rest taken.new.self) taken.result
    c.in-Some-split_first.ensures.cases.0 c.self.invariant c.in_default.ensures.0 (subst (λ (xs : List (g.row.R.Denot × g.row.V.Denot)). TakesFirst deref_pair xs taken.result (iter_rest taken.new.self)) begun taken.ensures))

pub returns : goal.returns
returns g c =
    subst (λ (all : List (g.row.R.Denot × g.row.V.Denot)). TakesFirst deref_pair all c.take_first-2.result (iter_rest c.take_first.new.self ++ (whole c.self.inside.chunks.now ++ iter_rest c.take_first-2.new.self))) c.self.view_is
    (alone deref_pair (iter_rest c.self.inside.front) (iter_rest c.take_first.new.self) (whole c.self.inside.chunks.now) (iter_rest c.self.inside.back) (iter_rest c.take_first-2.new.self) c.take_first-2.result
    c.in_default.ensures.0 c.in_default.ensures.1 (ap (λ (ps : List (List (g.row.R.Denot × g.row.V.Denot))). whole ps) (nil_from_length c.self.inside.chunks.now c.in_default-split_first.ensures.cases)) c.take_first-2.ensures)
