-- What the calls of a tree make of its pairs, in order of the starts of their ranges.
use Rattle.std.proofs.Common.{◌≡◌, List, [], ◌∷◌, ◌++◌, Bool, true, false, cond, not, ◌&&◌, Option, Some, refl, sym, ap, ◌∙◌, filter, subst}
use Rattle.std.specs.declared.cmp.Ordering.{Ordering}
use Rattle.std.specs.declared.cmp.Ordering.TheVariants.{Less, Equal, Greater}
use Rattle.std.specs.Ordering.{is_eq, is_lt, is_le, match_ordering, ordering_reverse}
use Rattle.std.specs.Cmp.{IsTotalOrder, alike_right}
use Rattle.std.specs.List.{AllByRecursion}
use Rattle.std.specs.List.Sorted.{IsStrictlySortedBy}
use Rattle.std.specs.Map.{values_of, keys_of, lookup, remove_entry, set_value}
use Rattle.std.specs.BTreeMap.{BTreeMap, insert_entry, is_at}
use Rattle.std.specs.BTreeMap.Range.{range_contains, is_from_start, is_past_end}
use Rattle.std.specs.declared.ops.Bound.{Bound}
use Rattle.std.specs.declared.ops.Bound.TheVariants.{Included, Excluded, Unbounded}
use Rattle.std.specs.declared.ops.Range.{Range}
use Rattle.rangemap_tree.specs.Starts.{before, entries_in, past, without, AreKeyed}

pub values_append : {K X : Type 0} (es fs : List (K × X)) → values_of (es ++ fs) ≡ values_of es ++ values_of fs
values_append [] fs = refl
values_append (e ∷ es) fs = ap (λ xs. e.1 ∷ xs) (values_append es fs)

module _ {K : Type 0} {cmp : K → K → Ordering} (o : IsTotalOrder cmp) where
  tied_from_start : (lo : Bound K) (x y : K) → cmp x y ≡ Equal → is_from_start cmp lo x ≡ is_from_start cmp lo y
  tied_from_start (Included a) x y h = ap is_le (alike_right o x y a h)
  tied_from_start (Excluded a) x y h = ap is_lt (alike_right o x y a h)
  tied_from_start Unbounded x y h = refl

  tied_past_end : (hi : Bound K) (x y : K) → cmp x y ≡ Equal → is_past_end cmp hi x ≡ is_past_end cmp hi y
  tied_past_end (Included a) x y h = ap is_lt (alike_right o x y a h)
  tied_past_end (Excluded a) x y h = ap is_le (alike_right o x y a h)
  tied_past_end Unbounded x y h = refl

  pub tied_in_range : (lo hi : Bound K) (x y : K) → cmp x y ≡ Equal → range_contains cmp lo hi x ≡ range_contains cmp lo hi y
  tied_in_range lo hi x y h = λ i. tied_from_start lo x y h i && not (tied_past_end hi x y h i)

module _ {K V : Type 0} {cmp : K → K → Ordering} (o : IsTotalOrder cmp) where
  -- a test that ties answer alike is asked of the keys, or of the starts
  pub values_filter : (f : K → Bool) → ((x y : K) → cmp x y ≡ Equal → f x ≡ f y) → (es : List (K × (Range K × V))) → AreKeyed cmp es → values_of (filter (λ e. f e.0) es) ≡ filter (λ p. f p.0.start) (values_of es)
  values_filter f tied [] h = refl
  values_filter f tied (e ∷ es) h = go (values_filter f tied es h.1) (f e.0) ∙ ap (λ b. cond b (e.1 ∷ filter (λ (p : Range K × V). f p.0.start) (values_of es)) (filter (λ (p : Range K × V). f p.0.start) (values_of es))) (tied e.0 e.1.0.start h.0)
    where
      go : values_of (filter (λ (e : K × (Range K × V)). f e.0) es) ≡ filter (λ (p : Range K × V). f p.0.start) (values_of es) → (b : Bool) → values_of (cond b (e ∷ filter (λ (e : K × (Range K × V)). f e.0) es) (filter (λ (e : K × (Range K × V)). f e.0) es)) ≡ cond b (e.1 ∷ filter (λ (p : Range K × V). f p.0.start) (values_of es)) (filter (λ (p : Range K × V). f p.0.start) (values_of es))
      go again true = ap (λ ps. e.1 ∷ ps) again
      go again false = again

  -- the same of the entries of a tree that was made
  pub made_filter : (f : K → Bool) → ((x y : K) → cmp x y ≡ Equal → f x ≡ f y) → (tree : Option (BTreeMap K (Range K × V))) (made : BTreeMap K (Range K × V)) → tree ≡ Some made → AreKeyed cmp (entries_in tree) → (ps : List (Range K × V)) → values_of (entries_in tree) ≡ ps
      → values_of (filter (λ e. f e.0) made.entries) ≡ filter (λ p. f p.0.start) ps
  made_filter f tied tree made is keyed ps whole =
      values_filter f tied made.entries (subst (λ tree. AreKeyed cmp (entries_in tree)) is keyed)
      ∙ ap (filter (λ p. f p.0.start)) (ap (λ tree. values_of (entries_in tree)) (sym is) ∙ whole)

  module _ (k : K) where
    at : (e : K × (Range K × V)) → cmp e.0 e.1.0.start ≡ Equal → cmp k e.1.0.start ≡ cmp k e.0
    at e h = sym (alike_right o e.0 e.1.0.start k h)

    abbrev AllAfter : List (K × (Range K × V)) → Type 0
    AllAfter es = AllByRecursion (λ y. cmp k y ≡ Less) (keys_of es)

    none_before : (es : List (K × (Range K × V))) → AreKeyed cmp es → AllAfter es → before cmp k (values_of es) ≡ []
    none_before [] h l = refl
    none_before (e ∷ es) h l = ap (λ r. cond (not (is_le r)) (e.1 ∷ before cmp k (values_of es)) (before cmp k (values_of es))) (at e h.0 ∙ l.0) ∙ none_before es h.1 l.1

    all_past : (es : List (K × (Range K × V))) → AreKeyed cmp es → AllAfter es → past cmp k (values_of es) ≡ values_of es
    all_past [] h l = refl
    all_past (e ∷ es) h l = ap (λ r. cond (is_lt r) (e.1 ∷ past cmp k (values_of es)) (past cmp k (values_of es))) (at e h.0 ∙ l.0) ∙ ap (λ ps. e.1 ∷ ps) (all_past es h.1 l.1)

    all_after : (q : K) → ((y : K) → cmp q y ≡ Less → cmp k y ≡ Less) → (es : List (K × (Range K × V))) → AllByRecursion (λ y. cmp q y ≡ Less) (keys_of es) → AllAfter es
    all_after q f [] l = tt
    all_after q f (e ∷ es) l = (f e.0 l.0, all_after q f es l.1)

    -- a pair put in
    pub put_is : (x : Range K × V) (es : List (K × (Range K × V))) → AreKeyed cmp es → IsStrictlySortedBy cmp (keys_of es) → values_of (insert_entry cmp es k x) ≡ before cmp k (values_of es) ++ x ∷ past cmp k (values_of es)
    unfolding IsStrictlySortedBy
    put_is x [] h s = refl
    put_is x (e ∷ es) h s = go (cmp k e.0) refl (put_is x es h.1 s.1) ∙ ap both (sym (at e h.0))
      where
        both : Ordering → List (Range K × V)
        both r = cond (not (is_le r)) (e.1 ∷ before cmp k (values_of es)) (before cmp k (values_of es)) ++ x ∷ cond (is_lt r) (e.1 ∷ past cmp k (values_of es)) (past cmp k (values_of es))

        go : (r : Ordering) → cmp k e.0 ≡ r → values_of (insert_entry cmp es k x) ≡ before cmp k (values_of es) ++ x ∷ past cmp k (values_of es) → values_of (match_ordering r ((k, x) ∷ e ∷ es) ((e.0, x) ∷ es) (e ∷ insert_entry cmp es k x)) ≡ both r
        go Less q again =
            let l = all_after e.0 (λ y m. o.trans k e.0 y q m) es s.0 in
            sym (λ i. none_before es h.1 l i ++ x ∷ e.1 ∷ all_past es h.1 l i)
        go Equal q again =
            let l = all_after e.0 (λ y m. o.congr k e.0 y q ∙ m) es s.0 in
            sym (λ i. none_before es h.1 l i ++ x ∷ all_past es h.1 l i)
        go Greater q again = ap (λ ps. e.1 ∷ ps) again

    pub put_keyed : (x : Range K × V) (es : List (K × (Range K × V))) → cmp k x.0.start ≡ Equal → AreKeyed cmp es → AreKeyed cmp (insert_entry cmp es k x)
    put_keyed x [] t h = (t, tt)
    put_keyed x (e ∷ es) t h = go (cmp k e.0) refl (put_keyed x es t h.1)
      where
        turned : (r : Ordering) → r ≡ Equal → ordering_reverse r ≡ Equal
        turned Less q = cc
        turned Equal q = refl
        turned Greater q = cc

        go : (r : Ordering) → cmp k e.0 ≡ r → AreKeyed cmp (insert_entry cmp es k x) → AreKeyed cmp (match_ordering r ((k, x) ∷ e ∷ es) ((e.0, x) ∷ es) (e ∷ insert_entry cmp es k x))
        go Less q again = (t, (h.0, h.1))
        go Equal q again = (o.congr e.0 k x.0.start (o.antisymm e.0 k ∙ turned (cmp k e.0) q) ∙ t, h.1)
        go Greater q again = (h.0, again)

    -- a pair taken out
    all_others : (es : List (K × (Range K × V))) → AreKeyed cmp es → AllAfter es → without cmp k (values_of es) ≡ values_of es
    all_others [] h l = refl
    all_others (e ∷ es) h l = ap (λ r. cond (not (is_eq r)) (e.1 ∷ without cmp k (values_of es)) (without cmp k (values_of es))) (at e h.0 ∙ l.0) ∙ ap (λ ps. e.1 ∷ ps) (all_others es h.1 l.1)

    pub take_is : (es : List (K × (Range K × V))) → AreKeyed cmp es → IsStrictlySortedBy cmp (keys_of es) → values_of (remove_entry (is_at (cmp k)) es) ≡ without cmp k (values_of es)
    unfolding IsStrictlySortedBy
    take_is [] h s = refl
    take_is (e ∷ es) h s = go (cmp k e.0) refl (take_is es h.1 s.1) ∙ ap both (sym (at e h.0))
      where
        both : Ordering → List (Range K × V)
        both r = cond (not (is_eq r)) (e.1 ∷ without cmp k (values_of es)) (without cmp k (values_of es))

        go : (r : Ordering) → cmp k e.0 ≡ r → values_of (remove_entry (is_at (cmp k)) es) ≡ without cmp k (values_of es) → values_of (cond (is_eq r) es (e ∷ remove_entry (is_at (cmp k)) es)) ≡ both r
        go Less q again = ap (λ ps. e.1 ∷ ps) again
        go Equal q again = sym (all_others es h.1 (all_after e.0 (λ y m. o.congr k e.0 y q ∙ m) es s.0))
        go Greater q again = ap (λ ps. e.1 ∷ ps) again

    pub take_keyed : (es : List (K × (Range K × V))) → AreKeyed cmp es → AreKeyed cmp (remove_entry (is_at (cmp k)) es)
    take_keyed [] h = tt
    take_keyed (e ∷ es) h = go (is_eq (cmp k e.0)) (take_keyed es h.1)
      where
        go : (b : Bool) → AreKeyed cmp (remove_entry (is_at (cmp k)) es) → AreKeyed cmp (cond b es (e ∷ remove_entry (is_at (cmp k)) es))
        go true again = h.1
        go false again = (h.0, again)

    -- another pair at the place of one
    nil_or : (us ws : List (Range K × V)) (p : Range K × V) → [] ≡ us ++ p ∷ ws → ⊥
    nil_or [] ws p h = cc
    nil_or (u ∷ us) ws p h = cc

    less_in : (q : K) (es : List (K × (Range K × V))) → AreKeyed cmp es → AllByRecursion (λ y. cmp q y ≡ Less) (keys_of es) → (us ws : List (Range K × V)) (p : Range K × V) → values_of es ≡ us ++ p ∷ ws → cmp q p.0.start ≡ Less
    less_in q [] h l us ws p e = absurd (nil_or us ws p e)
    less_in q (e ∷ es) h l [] ws p d =
        let same : e.1 ≡ p = cc in
        ap (λ (x : Range K × V). cmp q x.0.start) (sym same) ∙ sym (alike_right o e.0 e.1.0.start q h.0) ∙ l.0
    less_in q (e ∷ es) h l (u ∷ us) ws p d = less_in q es h.1 l.1 us ws p cc

    -- a pair found
    pub lookup_is : (es : List (K × (Range K × V))) → AreKeyed cmp es → IsStrictlySortedBy cmp (keys_of es) → (us ws : List (Range K × V)) (p : Range K × V) → values_of es ≡ us ++ p ∷ ws → cmp k p.0.start ≡ Equal → lookup (is_at (cmp k)) es ≡ Some p
    unfolding IsStrictlySortedBy
    lookup_is [] h s us ws p d t = absurd (nil_or us ws p d)
    lookup_is (e ∷ es) h s [] ws p d t =
        let same : e.1 ≡ p = cc in
        ap (λ r. cond (is_eq r) (Some e.1) (lookup (is_at (cmp k)) es)) (sym (at e h.0) ∙ ap (λ (x : Range K × V). cmp k x.0.start) same ∙ t) ∙ ap (λ q. Some q) same
    lookup_is (e ∷ es) h s (u ∷ us) ws p d t =
        let rest : values_of es ≡ us ++ p ∷ ws = cc in
        let low : cmp e.0 p.0.start ≡ Less = less_in e.0 es h.1 s.0 us ws p rest in
        let high : cmp k e.0 ≡ Greater = o.congr k p.0.start e.0 t ∙ o.antisymm p.0.start e.0 ∙ ap ordering_reverse low in
        ap (λ r. cond (is_eq r) (Some e.1) (lookup (is_at (cmp k)) es)) high ∙ lookup_is es h.1 s.1 us ws p rest t

    pub set_is : (w : Range K × V) (es : List (K × (Range K × V))) → AreKeyed cmp es → IsStrictlySortedBy cmp (keys_of es) → (us ws : List (Range K × V)) (p : Range K × V) → values_of es ≡ us ++ p ∷ ws → cmp k p.0.start ≡ Equal → values_of (set_value (is_at (cmp k)) es w) ≡ us ++ w ∷ ws
    unfolding IsStrictlySortedBy
    set_is w [] h s us ws p d t = absurd (nil_or us ws p d)
    set_is w (e ∷ es) h s [] ws p d t =
        let same : e.1 ≡ p = cc in
        let rest : values_of es ≡ ws = cc in
        ap (λ r. values_of (cond (is_eq r) ((e.0, w) ∷ es) (e ∷ set_value (is_at (cmp k)) es w))) (sym (at e h.0) ∙ ap (λ (x : Range K × V). cmp k x.0.start) same ∙ t) ∙ ap (λ ps. w ∷ ps) rest
    set_is w (e ∷ es) h s (u ∷ us) ws p d t =
        let same : e.1 ≡ u = cc in
        let rest : values_of es ≡ us ++ p ∷ ws = cc in
        let low : cmp e.0 p.0.start ≡ Less = less_in e.0 es h.1 s.0 us ws p rest in
        let high : cmp k e.0 ≡ Greater = o.congr k p.0.start e.0 t ∙ o.antisymm p.0.start e.0 ∙ ap ordering_reverse low in
        ap (λ r. values_of (cond (is_eq r) ((e.0, w) ∷ es) (e ∷ set_value (is_at (cmp k)) es w))) high ∙ (λ i. same i ∷ set_is w es h.1 s.1 us ws p rest t i)

    pub set_keyed : (w : Range K × V) (es : List (K × (Range K × V))) → cmp k w.0.start ≡ Equal → AreKeyed cmp es → AreKeyed cmp (set_value (is_at (cmp k)) es w)
    set_keyed w [] t h = tt
    set_keyed w (e ∷ es) t h = go (cmp k e.0) refl (set_keyed w es t h.1)
      where
        go : (r : Ordering) → cmp k e.0 ≡ r → AreKeyed cmp (set_value (is_at (cmp k)) es w) → AreKeyed cmp (cond (is_eq r) ((e.0, w) ∷ es) (e ∷ set_value (is_at (cmp k)) es w))
        go Less q again = (h.0, again)
        go Equal q again = (o.congr e.0 k w.0.start (o.antisymm e.0 k ∙ ap ordering_reverse q) ∙ t, h.1)
        go Greater q again = (h.0, again)
