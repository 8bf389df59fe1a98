-- How an iterator goes to its end, and that it stays there.
use Rattle.std.specs.Prelude.{◌≡◌, ◌≢◌, ℕ, ◌<◌, MatchOption, MatchResult, Option, Result}
use Rattle.std.specs.declared.alloc.AllocError.{AllocError}

-- A call at s, at which `left s` items were to come, answered r and left t. An item leaves fewer of
-- them; none is answered only where none was to come, and changes nothing.
abbrev pub GoesToEnd : {S A : Type 0} → (S → ℕ) → S → Option A → S → Type 0
GoesToEnd left s r t = MatchOption r ((left s ≡ 0) × (t ≡ s)) (λ _. left t < left s)

-- the same of a call that may be refused: then something was to come, and nothing changes
abbrev pub TriesToEnd : {S A : Type 0} → (S → ℕ) → S → Result (Option A) AllocError → S → Type 0
TriesToEnd left s r t = MatchResult r (λ answer. GoesToEnd left s answer t) (λ _. (left s ≢ 0) × (t ≡ s))

-- the same of all calls that the relation speaks of
abbrev pub AllGoToEnd : {S A : Type 0} → (S → ℕ) → (S → Option A → S → Type 0) → Type 0
AllGoToEnd {S} {A} left gives = (before : S) (answer : Option A) (after : S) → gives before answer after → GoesToEnd left before answer after

-- the same of all calls of which the relation speaks, which may be refused
abbrev pub AllTryToEnd : {S A : Type 0} → (S → ℕ) → (S → Result (Option A) AllocError → S → Type 0) → Type 0
AllTryToEnd {S} {A} left gives = (before : S) (answer : Result (Option A) AllocError) (after : S) → gives before answer after → TriesToEnd left before answer after
