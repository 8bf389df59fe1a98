-- That iterators go to their end: a call, by the list of what is left, and three calls of an iterator that makes its items out of
-- clones, one of them the end.
use Rattle.std.proofs.Common.{arith, ◌≡◌, ◌≢◌, ℕ, ◌<◌, ◌≤◌, List, [], ◌∷◌, ◌++◌, length, Option, Some, None, Result, Ok, Err, IfOk, OnErr, refl, ap, sym, ◌∙◌, length-append}
use Rattle.std.specs.Prelude.{IfNone, IsNone, OnSome}
use Rattle.std.specs.Map.Iter.{TakesFirst, TakesLast}
use Rattle.std.specs.declared.alloc.AllocError.{AllocError}
use Rattle.rangemap_core.specs.MadeRanges.{GivesRange, TakesRange}
use Rattle.rangemap_core.specs.Ranges.{RangeKind}
use Rattle.rangemap_laws.specs.IteratorEnds.{AllGoToEnd, AllTryToEnd, GoesToEnd, TriesToEnd}

-- ---- one call

both_empty : {X : Type 0} (s t : List X) → s ≡ [] → t ≡ [] → (length s ≡ 0) × (t ≡ s)
both_empty s t h i = (ap length h, i ∙ sym h)

module _ {A X : Type 0} (shows : A → X) where
  pub first_taken : (s : List X) (r : Option A) (t : List X) → TakesFirst shows s r t → GoesToEnd length s r t
  first_taken s None t h = both_empty s t h.0 h.1
  first_taken s (Some x) t h = let e : length s ≡ length (shows x ∷ t) = ap length h in omega (arith, e)

  pub last_taken : (s : List X) (r : Option A) (t : List X) → TakesLast shows s r t → GoesToEnd length s r t
  last_taken s None t h = both_empty s t h.0 h.1
  last_taken s (Some x) t h = let e : length s ≡ length (t ++ shows x ∷ []) = ap length h in omega (arith, e, length-append t (shows x ∷ []))

module _ {K X : Type 0} (k : RangeKind K X) where
  -- a refusal is the end
  refused : (s t : List X) → s ≢ [] → t ≡ [] → length t < length s
  refused [] t h i = absurd (h refl)
  refused (x ∷ s) t h i = let e : length t ≡ 0 = ap length i in omega (arith, e)

  pub range_given : (s : List X) (r : Option (Result X AllocError)) (t : List X) → GivesRange k s r t → GoesToEnd length s r t
  range_given s None t h = both_empty s t h.0 h.1
  range_given s (Some (Ok x)) t h = let e : length s ≡ length (h.0 ∷ t) = ap length h.1 in omega (arith, e)
  range_given s (Some (Err e)) t h = refused s t h.0 h.1

  pub range_tried : (s : List X) (r : Result (Option X) AllocError) (t : List X) → IfOk r (λ item. TakesRange k s item t) → OnErr r (t ≡ s) → OnErr r (s ≢ []) → TriesToEnd length s r t
  range_tried s (Ok None) t h same some = both_empty s t h.0 h.1
  range_tried s (Ok (Some x)) t h same some = range_given s (Some (Ok x)) t h
  range_tried s (Err e) t h same some = (has_length s some, same)
    where
      has_length : (s : List X) → s ≢ [] → length s ≢ 0
      has_length [] h = absurd (h refl)
      has_length (x ∷ s) h = λ none. omega (arith, none)

-- ---- three calls

module _ {S : Type 0} (left : S → ℕ) where
  goes_down : {A : Type 0} (s t : S) (r : Option A) → GoesToEnd left s r t → left t ≤ left s
  goes_down s t None h = let same : left t ≡ left s = ap left h.1 in omega (arith, same)
  goes_down s t (Some x) h = omega (arith, h)

  tries_down : {B : Type 0} (s t : S) (q : Result (Option B) AllocError) → TriesToEnd left s q t → left t ≤ left s
  tries_down s t (Ok None) h = let same : left t ≡ left s = ap left h.1 in omega (arith, same)
  tries_down s t (Ok (Some x)) h = omega (arith, h)
  tries_down s t (Err e) h = let same : left t ≡ left s = ap left h.1 in omega (arith, same)

  ended : {A : Type 0} (s t : S) (r : Option A) → left s ≡ 0 → GoesToEnd left s r t → IsNone r × (t ≡ s)
  ended s t None none h = (refl, h.1)
  ended s t (Some x) none h = absurd (omega (arith, none, h))

  tries_ended : {B : Type 0} (s t : S) (q : Result (Option B) AllocError) → left s ≡ 0 → TriesToEnd left s q t → (q ≡ Ok None) × (t ≡ s)
  tries_ended s t (Ok None) none h = (refl, h.1)
  tries_ended s t (Ok (Some x)) none h = absurd (omega (arith, none, h))
  tries_ended s t (Err e) none h = absurd (h.0 none)

  module _ {A B : Type 0} (s t u v : S) where
    -- `next`, `try_next`, `next`
    next_ends : (r : Option A) (q : Result (Option B) AllocError) (p : Option A) → GoesToEnd left s r t → TriesToEnd left t q u → GoesToEnd left u p v → OnSome r (left v < left s)
    next_ends None q p a b c = tt
    next_ends (Some x) q p a b c = omega (arith, a, tries_down t u q b, goes_down u v p c)

    next_stays : (r : Option A) (q : Result (Option B) AllocError) (p : Option A) → GoesToEnd left s r t → TriesToEnd left t q u → GoesToEnd left u p v → IfNone r ((left s ≡ 0) × (q ≡ Ok None) × IsNone p × (v ≡ s))
    next_stays (Some x) q p a b c = tt
    next_stays None q p a b c =
        let none : left t ≡ 0 = ap left a.1 ∙ a.0 in
        let tried = tries_ended t u q none b in
        let last = ended u v p (ap left tried.1 ∙ none) c in
        (a.0, tried.0, last.0, last.1 ∙ tried.1 ∙ a.1)

    -- `try_next` twice, and `next`
    tries_end : (r q : Result (Option B) AllocError) (p : Option A) → TriesToEnd left s r t → TriesToEnd left t q u → GoesToEnd left u p v → IfOk r (λ answer. OnSome answer (left v < left s))
    tries_end (Ok None) q p a b c = tt
    tries_end (Ok (Some x)) q p a b c = omega (arith, a, tries_down t u q b, goes_down u v p c)
    tries_end (Err e) q p a b c = tt

    tries_stay : (r q : Result (Option B) AllocError) (p : Option A) → TriesToEnd left s r t → TriesToEnd left t q u → GoesToEnd left u p v → IfOk r (λ answer. IfNone answer ((left s ≡ 0) × (q ≡ Ok None) × IsNone p × (v ≡ s)))
    tries_stay (Ok None) q p a b c =
        let none : left t ≡ 0 = ap left a.1 ∙ a.0 in
        let tried = tries_ended t u q none b in
        let last = ended u v p (ap left tried.1 ∙ none) c in
        (a.0, tried.0, last.0, last.1 ∙ tried.1 ∙ a.1)
    tries_stay (Ok (Some x)) q p a b c = tt
    tries_stay (Err e) q p a b c = tt

    -- the same of calls that meet relations by which all calls go to the end
    module _ {gives : S → Option A → S → Type 0} {takes : S → Result (Option B) AllocError → S → Type 0} (goes : AllGoToEnd left gives) (tries : AllTryToEnd left takes) where
      pub next_goes : (r : Option A) (q : Result (Option B) AllocError) (p : Option A) → gives s r t → takes t q u → gives u p v → OnSome r (left v < left s) × IfNone r ((left s ≡ 0) × (q ≡ Ok None) × IsNone p × (v ≡ s))
      next_goes r q p x y z =
          let first = goes s r t x in
          let tried = tries t q u y in
          let last = goes u p v z in
          (next_ends r q p first tried last, next_stays r q p first tried last)

      pub tries_go : (r q : Result (Option B) AllocError) (p : Option A) → takes s r t → takes t q u → gives u p v
          → IfOk r (λ answer. OnSome answer (left v < left s)) × IfOk r (λ answer. IfNone answer ((left s ≡ 0) × (q ≡ Ok None) × IsNone p × (v ≡ s)))
      tries_go r q p x y z = (
        tries_end r q p (tries s r t x) (tries t q u y) (goes u p v z),
        tries_stay r q p (tries s r t x) (tries t q u y) (goes u p v z),
      )
