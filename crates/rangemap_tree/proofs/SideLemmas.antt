-- What a change leaves on either side of a range, by the starts of the pairs.
use Rattle.std.proofs.Common.{◌≡◌, List, [], ◌∷◌, ◌++◌, Bool, Bor, true, false, cond, ◌&&◌, Option, Some, None, IfSome, filter, refl, sym, ap, ◌∙◌, subst, true≢false, Ordering, Less, Equal, is_gt, is_lt}
use Rattle.std.specs.Cmp.{IsTotalOrder, IsEquivalence, tied_itself}
use Rattle.std.specs.Option.{option_copied, option_eq}
use Rattle.std.specs.declared.ops.Range.{Range}
use Rattle.rangemap_core.specs.Ranges.{half_open, overlapped}
use Rattle.rangemap_core.specs.engine.Places.{place_cmp}
use Rattle.rangemap_core.specs.engine.PlacedKinds.{place_total}
use Rattle.rangemap_core.specs.engine.Shape.{Shape, IsApart, IsSpaced, given, optional}
use Rattle.rangemap_core.specs.engine.Stretch.{Every, IsLeftPart, IsRightPart}
use Rattle.rangemap_core.proofs.ListLemmas.{Every-map, Every-append, Every-right, apart_from_all, IsApart-from_lt, IsSpaced-left, IsSpaced-right}
use Rattle.rangemap_core.proofs.InsertPartLemmas.{left_uncut, left_taken, left_cut, right_uncut, right_taken, right_cut, before_first}
use Rattle.rangemap_core.proofs.PlaceOrderLemmas.{lt_le, tied_le, tied_ge, le_trans, lt_le_trans, le_lt_trans}
use Rattle.rangemap_tree.specs.Starts.{before, behind_end, from, near_end, past, recut}
use Rattle.rangemap_tree.specs.Sides.{shape, IsLeft, IsRight}
use Rattle.rangemap_tree.proofs.StartLemmas.{recut_last, before_tied, turned}
use Rattle.rangemap_tree.proofs.NearLemmas.{all_start, parts_behind, parts_near, whole_at}
use Rattle.rangemap_tree.proofs.SplitLemmas.{all_full, grouped, parts_at, past_of, split, starts_below}

not_none : {X : Type 0} (f : X → Bool) (us : List X) (b : X) (ws : List X) → f b ≡ true → filter f (us ++ b ∷ ws) ≡ [] → ⊥
not_none f [] b ws t h = let q : b ∷ filter f ws ≡ [] = sym (ap (λ c. cond c (b ∷ filter f ws) (filter f ws)) t) ∙ h in cc
not_none f (u ∷ us) b ws t h = go (not_none f us b ws t) (f u) h
  where
    go : (filter f (us ++ b ∷ ws) ≡ [] → ⊥) → (c : Bool) → cond c (u ∷ filter f (us ++ b ∷ ws)) (filter f (us ++ b ∷ ws)) ≡ [] → ⊥
    go again true k = cc
    go again false k = again k

module _ {V : Type 0} (eq : V → V → Bool) where
  -- the test of two lent values
  pub of_lent : (w : Bor V) (value : Option (Bor V)) → option_eq eq (Some w.now) (option_copied value) ≡ option_eq (λ (x y : Bor V). eq x.now y.now) (Some w) value
  of_lent w None = refl
  of_lent w (Some v) = refl

  -- a value that there is none of equals no other
  of_some : (w : V) (value : Option V) → option_eq eq (Some w) value ≡ true → value ≡ None → ⊥
  of_some w None h n = true≢false (sym h)
  of_some w (Some v) h n = cc

  of_others : {X : Type 0} (x : Option X) (w : V) (value : Option V) → option_eq eq (Some w) value ≡ false → ((v w : V) → eq v w ≡ true) → IfSome value (λ _. x ≡ None)
  of_others x w None h one = tt
  of_others x w (Some v) h one = absurd (true≢false (sym (one w v) ∙ h))

  of_no : {X : Type 0} (x : Option X) → x ≡ None → (value : Option V) → IfSome value (λ _. x ≡ None)
  of_no x h None = tt
  of_no x h (Some v) = h

  differs_back : IsEquivalence eq → (w : V) (value : Option V) → option_eq eq (Some w) value ≡ false → option_eq eq value (Some w) ≡ false
  differs_back e w None h = refl
  differs_back e w (Some v) h = e.symm v w ∙ h

module _ {K V : Type 0} {cmp : K → K → Ordering} (o : IsTotalOrder cmp) (eq : V → V → Bool) (e : IsEquivalence eq) where
  abbrev S : Shape (Range K) (Option K) V
  S = shape cmp eq

  places : IsTotalOrder (place_cmp cmp)
  places = place_total o

  ends_within : (x y : K) → cmp x y ≡ Equal → (ws : List (Range K × V)) → Every (λ (p : Range K × V). cmp p.0.start p.0.end ≡ Less) ws → Every (λ (p : Range K × V). is_gt (cmp p.0.end y) ≡ false) ws → Every (λ (p : Range K × V). cmp p.0.start x ≡ Less) ws
  ends_within x y t [] f g = tt
  ends_within x y t (w ∷ ws) f g = (lt_le_trans o w.0.start w.0.end x f.0 (le_trans o w.0.end y x g.0 (tied_ge o x y t)), ends_within x y t ws f.1 g.1)

  -- those before a pair end by each key that it starts by
  first_by : (us : List (Range K × V)) (a : Range K × V) (ws : List (Range K × V)) → IsSpaced S (us ++ a ∷ ws) → (y : K) → is_gt (cmp a.0.start y) ≡ false → Every (λ (u : Range K × V). is_gt (cmp u.0.end y) ≡ false) us
  first_by us a ws sp y h = Every-map _ _ us (λ u k. le_trans o u.0.end a.0.start y k.before h) (before_first S places e us ws a sp)

  module _ (ps : List (Range K × V)) (c : IsSpaced S ps) (r : Range K) (value : Option V) where
    parts : (before cmp r.start ps ++ from cmp r.start ps ≡ ps) × Every (λ (p : Range K × V). cmp p.0.start r.start ≡ Less) (before cmp r.start ps) × Every (λ (p : Range K × V). is_gt (cmp r.start p.0.start) ≡ false) (from cmp r.start ps)
    parts = split o eq e r.start ps c

    above : Every (λ (a : Range K × V). is_gt (cmp r.start a.0.start) ≡ false) (from cmp r.start ps)
    above = parts.2

    -- ---- left

    left_clear : Every (λ (a : Range K × V). IsApart (optional S) (given a) (r, value)) (before cmp r.start ps) → IsLeft cmp eq ps r value None None
    left_clear clear = record {
      part = λ m tie. subst (λ xs. IsLeftPart S xs (before cmp m.start ps) r m value) parts.0
          (subst (λ ys. IsLeftPart S (before cmp r.start ps ++ from cmp r.start ps) ys r m value) (sym (before_tied o m.start r.start tie ps))
          (left_uncut S places e r m value (before cmp r.start ps) (from cmp r.start ps) (subst (IsSpaced S) (sym parts.0) c) clear above tie));
      cut_there = λ x tie. tt;
      of_none = λ h. refl;
    }

    pub left_none : before cmp r.start ps ≡ [] → IsLeft cmp eq ps r value None None
    left_none h = left_clear (subst (Every (λ (a : Range K × V). IsApart (optional S) (given a) (r, value))) (sym h) tt)

    module _ (us : List (Range K × V)) (a : Range K × V) (is : before cmp r.start ps ≡ us ++ a ∷ []) where
      whole : ps ≡ us ++ a ∷ from cmp r.start ps
      whole = sym parts.0 ∙ ap (λ xs. xs ++ from cmp r.start ps) is ∙ grouped us a (from cmp r.start ps)

      spaced : IsSpaced S (us ++ a ∷ from cmp r.start ps)
      spaced = subst (IsSpaced S) whole c

      us_first : Every (λ (u : Range K × V). IsApart S u a) us
      us_first = before_first S places e us (from cmp r.start ps) a spaced

      a_below : cmp a.0.start r.start ≡ Less
      a_below = (Every-right (λ (p : Range K × V). cmp p.0.start r.start ≡ Less) us (a ∷ []) (subst (Every (λ (p : Range K × V). cmp p.0.start r.start ≡ Less)) is parts.1)).0

      pub left_apart : is_gt (cmp a.0.end r.start) ≡ false → (cmp a.0.end r.start ≡ Equal → option_eq eq (Some a.1) value ≡ false) → IsLeft cmp eq ps r value None None
      left_apart h touch = left_clear (subst (Every (λ (b : Range K × V). IsApart (optional S) (given b) (r, value))) (sym is)
          (Every-append _ us (a ∷ []) (Every-map _ _ us (λ u k. IsApart-from_lt (optional S) places (given u) (r, value) (le_lt_trans o u.0.end a.0.start r.start k.before a_below)) us_first) (record { before = h; differs_at_touch = touch }, tt)))

      us_below : (x : K) → cmp x a.0.start ≡ Equal → Every (λ (u : Range K × V). cmp u.0.start x ≡ Less) us
      us_below x tie = Every-map _ _ us (λ u k. lt_le_trans o u.0.start a.0.start x k (tied_ge o x a.0.start tie)) (starts_below o eq e us a (from cmp r.start ps) spaced)

      from_a : (x : K) → cmp x a.0.start ≡ Equal → Every (λ (p : Range K × V). is_gt (cmp x p.0.start) ≡ false) (a ∷ from cmp r.start ps)
      from_a x tie = (tied_le o x a.0.start tie, Every-map _ _ (from cmp r.start ps) (λ p k. lt_le o x p.0.start (le_lt_trans o x a.0.start p.0.start (tied_le o x a.0.start tie) (lt_le_trans o a.0.start r.start p.0.start a_below k))) above)

      pub left_joined : (k : K) → cmp k a.0.start ≡ Equal → is_gt (cmp r.start a.0.end) ≡ false → option_eq eq (Some a.1) value ≡ true → IsLeft cmp eq ps r value (Some k) None
      left_joined k same reaches equal = record {
        part = λ m tie.
            let t : cmp m.start a.0.start ≡ Equal = o.congr m.start k a.0.start tie ∙ same in
            let b : before cmp m.start ps ≡ us = ap (before cmp m.start) whole ∙ (parts_at o m.start us (a ∷ from cmp r.start ps) (us_below m.start t) (from_a m.start t)).0 in
            subst (λ ys. IsLeftPart S ps ys r m value) (sym b) (subst (λ xs. IsLeftPart S xs us r m value) (sym whole) (left_taken S places e r m value us (from cmp r.start ps) a spaced a_below reaches equal t));
        cut_there = λ x tie. tt;
        of_none = λ h. absurd (of_some eq a.1 value equal h);
      }

      pub left_parted : (g : Range K) → cmp g.start a.0.start ≡ Equal → cmp g.end r.start ≡ Equal → is_gt (cmp r.start a.0.end) ≡ false → option_eq eq (Some a.1) value ≡ false → IsLeft cmp eq ps r value None (Some g)
      left_parted g low high reaches differs = record {
        part = λ m tie.
            let b : recut (Some g) (before cmp m.start ps) ≡ us ++ (g, a.1) ∷ [] = ap (recut (Some g)) (before_tied o m.start r.start tie ps ∙ is) ∙ recut_last g us a in
            subst (λ ys. IsLeftPart S ps ys r m value) (sym b) (subst (λ xs. IsLeftPart S xs (us ++ (g, a.1) ∷ []) r m value) (sym whole) (left_cut S places e r m value us (from cmp r.start ps) a g a.1 spaced a_below reaches differs tie low high (e.refl a.1)));
        cut_there = λ x tie. (us, a, before_tied o x r.start tie ps ∙ is, low);
        of_none = λ h. refl;
      }

    -- ---- right

    abbrev front : List (Range K × V)
    front = near_end cmp value r.end ps

    abbrev back : List (Range K × V)
    back = behind_end cmp value r.end ps

    near : (front ++ back ≡ ps) × Every (λ (p : Range K × V). is_gt (cmp p.0.start r.end) ≡ false) front × Every (λ (p : Range K × V). IsApart (optional S) (r, value) (given p)) back
    near = parts_near o eq e ps c r value

    later : (x : K) → cmp x r.end ≡ Equal → Every (λ (p : Range K × V). is_gt (cmp x p.0.start) ≡ false) back
    later x tie = Every-map _ _ back (λ p k. le_trans o x r.end p.0.start (tied_le o x r.end tie) k.before) near.2

    right_clear : (init post : List (Range K × V)) → init ++ post ≡ ps → Every (λ (b : Range K × V). IsApart (optional S) (r, value) (given b)) post → Every (λ (a : Range K × V). is_gt (cmp a.0.end r.end) ≡ false) init → IsRight cmp eq ps r value None None
    right_clear init post w clear within = record {
      part = λ m tie.
          let sp : IsSpaced S (init ++ post) = subst (IsSpaced S) (sym w) c in
          let low : Every (λ (p : Range K × V). cmp p.0.start m.end ≡ Less) init = ends_within m.end r.end tie init (all_full o eq e init (IsSpaced-left S places init post sp)) within in
          let high : Every (λ (p : Range K × V). is_gt (cmp m.end p.0.start) ≡ false) post = Every-map _ _ post (λ b k. le_trans o m.end r.end b.0.start (tied_le o m.end r.end tie) k.before) clear in
          let b : from cmp m.end ps ≡ post = ap (from cmp m.end) (sym w) ∙ (parts_at o m.end init post low high).1 in
          subst (λ ys. IsRightPart S ps ys r m value) (sym b) (subst (λ xs. IsRightPart S xs post r m value) w (right_uncut S places e r m value init post sp clear within tie));
      new_there = λ x tie. tt;
      behind = later;
      of_none = λ h. refl;
      of_other_values = λ h. of_no eq None refl value;
    }

    pub right_none : front ≡ [] → IsRight cmp eq ps r value None None
    right_none h = right_clear front back near.0 near.2 (subst (Every (λ (a : Range K × V). is_gt (cmp a.0.end r.end) ≡ false)) (sym h) tt)

    module _ (us : List (Range K × V)) (b : Range K × V) (is : front ≡ us ++ b ∷ []) where
      r_whole : ps ≡ us ++ b ∷ back
      r_whole = whole_at o eq e ps c front back near.0 us b is

      r_spaced : IsSpaced S (us ++ b ∷ back)
      r_spaced = subst (IsSpaced S) r_whole c

      b_starts : is_gt (cmp b.0.start r.end) ≡ false
      b_starts = (Every-right (λ (p : Range K × V). is_gt (cmp p.0.start r.end) ≡ false) us (b ∷ []) (subst (Every (λ (p : Range K × V). is_gt (cmp p.0.start r.end) ≡ false)) is near.1)).0

      b_tail : IsSpaced S (b ∷ back)
      b_tail = IsSpaced-right S places us (b ∷ back) r_spaced

      -- all in front end by a key where the last does that starts no later
      pub ends_by : (y : K) → is_gt (cmp b.0.end y) ≡ false → Every (λ (p : Range K × V). is_gt (cmp p.0.end y) ≡ false) front
      ends_by y h = subst (Every (λ (p : Range K × V). is_gt (cmp p.0.end y) ≡ false)) (sym is)
          (Every-append _ us (b ∷ []) (first_by us b back r_spaced y (le_trans o b.0.start b.0.end y (lt_le o b.0.start b.0.end b_tail.0) h)) (h, tt))

      pub right_within : is_gt (cmp b.0.end r.end) ≡ false → IsRight cmp eq ps r value None None
      right_within h = right_clear front back near.0 near.2 (ends_by r.end h)

      pub right_touch : is_gt (cmp r.end b.0.start) ≡ false → option_eq eq (Some b.1) value ≡ false → IsRight cmp eq ps r value None None
      right_touch at differs = right_clear us (b ∷ back) (sym r_whole) (record { before = at; differs_at_touch = λ _. differs_back eq e b.1 value differs }, near.2) (first_by us b back r_spaced r.end b_starts)

      behind_b : (x : K) → is_gt (cmp x b.0.end) ≡ false → Every (λ (p : Range K × V). is_gt (cmp x p.0.start) ≡ false) back
      behind_b x h = Every-map _ _ back (λ p k. le_trans o x b.0.end p.0.start h k.before) (apart_from_all S places b back b_tail)

      pub right_joined : (k : K) → cmp k b.0.end ≡ Equal → cmp r.end b.0.end ≡ Less → option_eq eq (Some b.1) value ≡ true → IsRight cmp eq ps r value (Some k) None
      right_joined k same reaches equal = record {
        part = λ m tie.
            let t : cmp m.end b.0.end ≡ Equal = o.congr m.end k b.0.end tie ∙ same in
            let f : from cmp m.end ps ≡ back = (parts_behind o eq e ps c front back near.0 us b is m.end (lt_le_trans o b.0.start b.0.end m.end b_tail.0 (tied_ge o m.end b.0.end t)) (behind_b m.end (tied_le o m.end b.0.end t))).1 in
            subst (λ ys. IsRightPart S ps ys r m value) (sym f) (subst (λ xs. IsRightPart S xs back r m value) (sym r_whole) (right_taken S places e r m value us back b r_spaced reaches b_starts equal t));
        new_there = λ x tie. tt;
        behind = λ x tie. behind_b x (tied_le o x b.0.end (o.congr x k b.0.end tie ∙ same));
        of_none = λ h. absurd (of_some eq b.1 value equal h);
        of_other_values = λ h. of_no eq None refl value;
      }

      pub right_parted : (q : K × (Range K × V)) → cmp q.0 r.end ≡ Equal → cmp q.1.0.start r.end ≡ Equal → cmp q.1.0.end b.0.end ≡ Equal → eq q.1.1 b.1 ≡ true → cmp r.end b.0.end ≡ Less → option_eq eq (Some b.1) value ≡ false → cmp b.0.start r.end ≡ Less → IsRight cmp eq ps r value None (Some q)
      right_parted q key low high equal reaches differs starts =
          let at : (x : K) → cmp x r.end ≡ Equal → cmp b.0.start x ≡ Less = λ x tie. lt_le_trans o b.0.start r.end x starts (tied_ge o x r.end tie) in
          record {
            part = λ m tie.
                let f : from cmp m.end ps ≡ back = (parts_behind o eq e ps c front back near.0 us b is m.end (at m.end tie) (later m.end tie)).1 in
                subst (λ ys. IsRightPart S ps (q.1 ∷ ys) r m value) (sym f) (subst (λ xs. IsRightPart S xs (q.1 ∷ back) r m value) (sym r_whole) (right_cut S places e r m value us back b q.1.0 q.1.1 r_spaced reaches b_starts differs tie low high equal));
            new_there = λ x tie.
                let b_end : cmp x b.0.end ≡ Less = le_lt_trans o x r.end b.0.end (tied_le o x r.end tie) reaches in
                let beyond : Every (λ (p : Range K × V). cmp x p.0.start ≡ Less) back = Every-map _ _ back (λ p k. lt_le_trans o x b.0.end p.0.start b_end k.before) (apart_from_all S places b back b_tail) in
                let first : before cmp x ps ≡ front = (parts_behind o eq e ps c front back near.0 us b is x (at x tie) (later x tie)).0 in
                let last : past cmp x ps ≡ back = ap (past cmp x) (sym near.0) ∙ past_of o x front back (all_start o eq e ps c front back near.0 us b is x (at x tie)) beyond in
                (o.congr q.0 r.end q.1.0.start key ∙ turned o q.1.0.start r.end low, o.congr q.0 r.end x key ∙ turned o x r.end tie, (λ i. first i ++ last i) ∙ near.0);
            behind = later;
            of_none = λ h. refl;
            of_other_values = of_others eq (Some q) b.1 value differs;
          }

    -- ---- where the range meets none

    pub unmet : cmp r.start r.end ≡ Less → value ≡ None → Every (λ (p : Range K × V). is_gt (cmp p.0.end r.start) ≡ false) front → IsLeftPart S ps front r r value × IsRightPart S ps back r r value
    unmet full none h =
        let sp : IsSpaced S (front ++ back) = subst (IsSpaced S) (sym near.0) c in (
          subst (λ xs. IsLeftPart S xs front r r value) near.0 (left_uncut S places e r r value front back sp (Every-map _ _ front (λ p k. record { before = k; differs_at_touch = λ _. ap (option_eq eq (Some p.1)) none }) h) (Every-map _ _ back (λ p k. lt_le o r.start p.0.start (lt_le_trans o r.start r.end p.0.start full k.before)) near.2) (tied_itself o r.start)),
          subst (λ xs. IsRightPart S xs back r r value) near.0 (right_uncut S places e r r value front back sp near.2 (Every-map _ _ front (λ p k. le_trans o p.0.end r.start r.end k (lt_le o r.start r.end full)) h) (tied_itself o r.end)),
        )

    -- the last that starts before the end overlaps where it ends after the start
    pub last_overlaps : (us : List (Range K × V)) (b : Range K × V) → before cmp r.end ps ≡ us ++ b ∷ [] → cmp r.start b.0.end ≡ Less → overlapped (half_open cmp) ps r ≡ [] → ⊥
    last_overlaps us b is reaches h =
        let high = split o eq e r.end ps c in
        let w : ps ≡ us ++ b ∷ from cmp r.end ps = whole_at o eq e ps c (before cmp r.end ps) (from cmp r.end ps) high.0 us b is in
        let starts : cmp b.0.start r.end ≡ Less = (Every-right (λ (p : Range K × V). cmp p.0.start r.end ≡ Less) us (b ∷ []) (subst (Every (λ (p : Range K × V). cmp p.0.start r.end ≡ Less)) is high.1)).0 in
        not_none (λ (p : Range K × V). is_lt (cmp r.start p.0.end) && is_lt (cmp p.0.start r.end)) us b (from cmp r.end ps) (λ i. is_lt (reaches i) && is_lt (starts i)) (sym (ap (λ qs. overlapped (half_open cmp) qs r) w) ∙ h)
