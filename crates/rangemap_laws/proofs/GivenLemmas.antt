-- What an iterator takes, where it is the very item that it shows.
use Rattle.std.proofs.Common.{◌≡◌, ◌∷◌, ◌∙◌, List, Option, Some, None, ap}
use Rattle.std.specs.Map.Iter.{TakesFirst}

pub taken_as_shown : {A : Type 0} (shows : A → A) → ((item : A) → shows item ≡ item) → (old : List A) (taken : Option A) (new : List A) → TakesFirst shows old taken new → TakesFirst (λ item. item) old taken new
taken_as_shown shows same old None new h = h
taken_as_shown shows same old (Some item) new h = h ∙ ap (λ x. x ∷ new) (same item)
