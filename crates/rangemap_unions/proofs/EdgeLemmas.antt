-- The parts between the crossed edges of two canonical lists are the canonical list of the points that exactly one of them has.
use Rattle.std.proofs.Common.{arith, ◌≡◌, Bool, true, false, not, ◌&&◌, ◌||◌, cond, List, [], ◌∷◌, Option, Some, refl, sym, ap, ap₂, ◌∙◌, true≢false, Ordering, Less, Equal, Greater, is_lt}
use Rattle.std.proofs.lemmas.Bool.Decides.{nat_tests}
use Rattle.std.specs.Bool.{⊤}
use Rattle.std.specs.Cmp.{IsTotalOrder, alike_right}
use Rattle.rangemap_core.specs.Ranges.{RangeKind, covers}
use Rattle.rangemap_core.specs.Sets.{AreOneOnly, IsCanonicalSet}
use Rattle.rangemap_core.specs.engine.Endpoints.{EndpointOf, AtStart, AtEnd, IsAskedAt, IsPlaced, asked, is_before, place_of}
use Rattle.rangemap_core.specs.engine.EndpointKinds.{lt_is}
use Rattle.rangemap_core.specs.engine.PlacedKinds.{place_total}
use Rattle.rangemap_core.specs.engine.Places.{place_cmp}
use Rattle.rangemap_core.specs.laws.Orders.{le_Equal, le_Less, lt_eq, lt_lt, eq_turn, turn}
use Rattle.rangemap_core.proofs.GapLemmas.{below, covers-cons, holds_stored, in_part}
use Rattle.rangemap_core.proofs.StoredKeyLemmas.{ends_before}
use Rattle.rangemap_unions.specs.Edges.{crossed, crossed_from, edges_of, exchanged_items, parts_between}
use Rattle.rangemap_unions.proofs.PartLemmas.{StartsAfter, after_sooner, behind_earlier, canonical_cons}

-- ---- exactly one of two tests

abbrev one_of : Bool → Bool → Bool
one_of a b = (a && not b) || (b && not a)

none_of : (b : Bool) → one_of false b ≡ b
none_of b = grind (arith, nat_tests)

regrouped : (a b c : Bool) → one_of a (one_of b c) ≡ one_of (one_of a b) c
regrouped a b c = grind (arith, nat_tests)

exchanged : (a b c : Bool) → one_of a (one_of b c) ≡ one_of b (one_of a c)
exchanged a b c = grind (arith, nat_tests)

twice : (a b c : Bool) → one_of b c ≡ one_of (one_of a b) (one_of a c)
twice a b c = grind (arith, nat_tests)

even_rest : (b : Bool) → one_of true (one_of true b) ≡ false → b ≡ false
even_rest b h = grind (arith, nat_tests)

-- a key below an edge s is below the later edge e, and what is covered behind e is not below it
part_tests : (s e c : Bool) → (s ≡ true → e ≡ true) → (c ≡ true → e ≡ false) → ((not s && e) || c) ≡ one_of (not s) (one_of (not e) c)
part_tests s e c p q = grind (arith, nat_tests)

-- ---- of how many edges a test holds

module _ {E : Type 0} (t : E → Bool) where
  -- whether the test holds at an odd number of edges
  abbrev odd : List E → Bool
  odd [] = false
  odd (e ∷ es) = one_of (t e) (odd es)

module _ {K X : Type 0} (k : RangeKind K X) (end_place : X → Option K) (t : EndpointOf X → Bool)
    (agree : (e f : EndpointOf X) → is_before k end_place e f ≡ false → is_before k end_place f e ≡ false → t e ≡ t f) where
  from_odd : (e : EndpointOf X) (on : List (EndpointOf X) → List (EndpointOf X)) (rest : Bool) → ((fs : List (EndpointOf X)) → odd t (on fs) ≡ one_of rest (odd t fs))
      → (fs : List (EndpointOf X)) → odd t (crossed_from k end_place e on fs) ≡ one_of (one_of (t e) rest) (odd t fs)
  from_odd e on rest on_odd [] = ap (one_of (t e)) (on_odd []) ∙ regrouped (t e) rest false
  from_odd e on rest on_odd (f ∷ fs) = by (is_before k end_place e f) refl (is_before k end_place f e) refl (from_odd e on rest on_odd fs)
    where
      by : (b : Bool) → is_before k end_place e f ≡ b → (d : Bool) → is_before k end_place f e ≡ d → odd t (crossed_from k end_place e on fs) ≡ one_of (one_of (t e) rest) (odd t fs)
          → odd t (cond b (e ∷ on (f ∷ fs)) (cond d (f ∷ crossed_from k end_place e on fs) (on fs))) ≡ one_of (one_of (t e) rest) (one_of (t f) (odd t fs))
      by true p d q later = ap (one_of (t e)) (on_odd (f ∷ fs)) ∙ regrouped (t e) rest (one_of (t f) (odd t fs))
      by false p true q later = ap (one_of (t f)) later ∙ exchanged (t f) (one_of (t e) rest) (odd t fs)
      by false p false q later = on_odd fs ∙ twice (t e) rest (odd t fs) ∙ ap (λ b. one_of (one_of (t e) rest) (one_of b (odd t fs))) (agree e f p q)

  -- edges that are in both lists are left out, and count for neither
  crossed_odd : (es fs : List (EndpointOf X)) → odd t (crossed k end_place es fs) ≡ one_of (odd t es) (odd t fs)
  crossed_odd [] fs = sym (none_of (odd t fs))
  crossed_odd (e ∷ es) fs = from_odd e (crossed k end_place es) (odd t es) (λ gs. crossed_odd es gs) fs

edges_even : {X : Type 0} (rs : List X) → odd (λ _. true) (edges_of rs) ≡ false
edges_even [] = refl
edges_even (r ∷ rest) = ap (λ b. one_of true (one_of true b)) (edges_even rest)

module _ {K X : Type 0} {k : RangeKind K X} {end_place : X → Option K} {part : EndpointOf X → EndpointOf X → X} (p : IsPlaced k end_place part) where
  abbrev R : Option K → Option K → Ordering
  R = place_cmp k.cmp

  abbrev place : EndpointOf X → Option K
  place e = place_of k end_place e

  o : IsTotalOrder R
  o = place_total p.total

  -- ---- edges in order

  -- the first edge lies behind the place
  abbrev AreAbove : Option K → List (EndpointOf X) → Type 0
  AreAbove at [] = ⊤
  AreAbove at (e ∷ es) = R at (place e) ≡ Less

  -- each edge lies behind the one before it
  abbrev AreOrdered : List (EndpointOf X) → Type 0
  AreOrdered [] = ⊤
  AreOrdered (e ∷ es) = IsAskedAt k e × AreAbove (place e) es × AreOrdered es

  above_sooner : (a b : Option K) (es : List (EndpointOf X)) → R a b ≡ Less → AreAbove b es → AreAbove a es
  above_sooner a b [] h above = tt
  above_sooner a b (e ∷ es) h above = lt_lt o {a = a} {b = b} {c = place e} h above

  from_above : (at : Option K) (e : EndpointOf X) (on : List (EndpointOf X) → List (EndpointOf X)) → R at (place e) ≡ Less
      → ((gs : List (EndpointOf X)) → AreOrdered gs → AreAbove at gs → AreAbove at (on gs))
      → (fs : List (EndpointOf X)) → AreOrdered fs → AreAbove at fs → AreAbove at (crossed_from k end_place e on fs)
  from_above at e on early on_above [] ordered above = early
  from_above at e on early on_above (f ∷ fs) ordered above = by (is_before k end_place e f) (is_before k end_place f e)
    where
      by : (b d : Bool) → AreAbove at (cond b (e ∷ on (f ∷ fs)) (cond d (f ∷ crossed_from k end_place e on fs) (on fs)))
      by true d = early
      by false true = above
      by false false = on_above fs ordered.2 (above_sooner at (place f) fs above ordered.1)

  crossed_above : (at : Option K) (es fs : List (EndpointOf X)) → AreOrdered es → AreOrdered fs → AreAbove at es → AreAbove at fs → AreAbove at (crossed k end_place es fs)
  crossed_above at [] fs es_ordered fs_ordered es_above fs_above = fs_above
  crossed_above at (e ∷ es) fs es_ordered fs_ordered es_above fs_above =
      from_above at e (crossed k end_place es) es_above
      (λ gs ordered above. crossed_above at es gs es_ordered.2 ordered (above_sooner at (place e) es es_above es_ordered.1) above) fs fs_ordered fs_above

  from_ordered : (e : EndpointOf X) (on : List (EndpointOf X) → List (EndpointOf X)) → IsAskedAt k e
      → ((gs : List (EndpointOf X)) → AreOrdered gs → AreOrdered (on gs))
      → ((gs : List (EndpointOf X)) → AreOrdered gs → AreAbove (place e) gs → AreAbove (place e) (on gs))
      → ((at : Option K) → R at (place e) ≡ Less → (gs : List (EndpointOf X)) → AreOrdered gs → AreAbove at gs → AreAbove at (on gs))
      → (fs : List (EndpointOf X)) → AreOrdered fs → AreOrdered (crossed_from k end_place e on fs)
  from_ordered e on e_asked on_ordered on_behind on_above [] ordered = (e_asked, on_behind [] tt tt, on_ordered [] tt)
  from_ordered e on e_asked on_ordered on_behind on_above (f ∷ fs) ordered =
      by (is_before k end_place e f) refl (is_before k end_place f e) refl (from_ordered e on e_asked on_ordered on_behind on_above fs ordered.2)
    where
      by : (b : Bool) → is_before k end_place e f ≡ b → (d : Bool) → is_before k end_place f e ≡ d → AreOrdered (crossed_from k end_place e on fs)
          → AreOrdered (cond b (e ∷ on (f ∷ fs)) (cond d (f ∷ crossed_from k end_place e on fs) (on fs)))
      by true p d q later = (e_asked, on_behind (f ∷ fs) ordered (lt_is _ p), on_ordered (f ∷ fs) ordered)
      by false p true q later = (ordered.0, from_above (place f) e on (lt_is _ q) (on_above (place f) (lt_is _ q)) fs ordered.2 ordered.1, later)
      by false p false q later = on_ordered fs ordered.2

  crossed_ordered : (es fs : List (EndpointOf X)) → AreOrdered es → AreOrdered fs → AreOrdered (crossed k end_place es fs)
  crossed_ordered [] fs es_ordered fs_ordered = fs_ordered
  crossed_ordered (e ∷ es) fs es_ordered fs_ordered =
      from_ordered e (crossed k end_place es) es_ordered.0
      (λ gs ordered. crossed_ordered es gs es_ordered.2 ordered)
      (λ gs ordered above. crossed_above (place e) es gs es_ordered.2 ordered es_ordered.1 above)
      (λ at h gs ordered above. crossed_above at es gs es_ordered.2 ordered (above_sooner at (place e) es h es_ordered.1) above)
      fs fs_ordered

  edges_behind : (r : X) (rest : List X) → IsCanonicalSet k (r ∷ rest) → AreAbove (end_place r) (edges_of rest)
  edges_behind r [] can = tt
  edges_behind r (s ∷ rest) can = ends_before p r s rest can

  edges_ordered : (rs : List X) → IsCanonicalSet k rs → AreOrdered (edges_of rs)
  edges_ordered [] can = tt
  edges_ordered (r ∷ rest) can = (asked k r can.0, p.non_empty r can.0, (asked k r can.0, edges_behind r rest can, edges_ordered rest can.2))

  -- ---- points

  -- a key is behind the edge
  abbrev is_behind : K → EndpointOf X → Bool
  is_behind x e = not (is_lt (R (Some x) (place e)))

  agree : (x : K) (e f : EndpointOf X) → is_before k end_place e f ≡ false → is_before k end_place f e ≡ false → is_behind x e ≡ is_behind x f
  agree x e f h g = ap (λ c. not (is_lt c)) (alike_right o (place e) (place f) (Some x) (tied (R (place e) (place f)) refl))
    where
      tied : (c : Ordering) → R (place e) (place f) ≡ c → R (place e) (place f) ≡ Equal
      tied Less q = absurd (true≢false (sym (ap is_lt q) ∙ h))
      tied Equal q = q
      tied Greater q = absurd (true≢false (sym (ap is_lt (turn o {a = place e} {b = place f} q)) ∙ g))

  -- a range is behind as many of its own edges as the set has the key
  edges_cover : (x : K) → k.is_key x → (rs : List X) → IsCanonicalSet k rs → covers k rs x ≡ odd (is_behind x) (edges_of rs)
  edges_cover x key [] can = refl
  edges_cover x key (r ∷ rest) can =
      covers-cons k r rest x
      ∙ ap (λ b. b || covers k rest x) (holds_stored p r x can.0 key)
      ∙ part_tests (is_lt (R (Some x) (Some (k.start r)))) (is_lt (R (Some x) (end_place r))) (covers k rest x)
      (λ l. below o (Some x) (Some (k.start r)) (end_place r) l (le_Less (p.non_empty r can.0)))
      (behind_earlier p r rest x can key)
      ∙ ap (λ b. one_of (is_behind x (AtStart r)) (one_of (is_behind x (AtEnd r)) b)) (edges_cover x key rest can.2)

  odd_later : (x : K) (at : Option K) (es : List (EndpointOf X)) → AreAbove at es → AreOrdered es → is_lt (R (Some x) at) ≡ true → odd (is_behind x) es ≡ false
  odd_later x at [] above ordered h = refl
  odd_later x at (e ∷ es) above ordered h =
      let early : is_lt (R (Some x) (place e)) ≡ true = below o (Some x) at (place e) h (le_Less above) in
      ap₂ (λ a b. one_of (not a) b) early (odd_later x (place e) es ordered.1 ordered.2 early)

  parts_points : (x : K) → k.is_key x → (es : List (EndpointOf X)) → AreOrdered es → odd (λ _. true) es ≡ false → covers k (parts_between k end_place part es) x ≡ odd (is_behind x) es
  parts_points x key [] ordered even = refl
  parts_points x key (e ∷ []) ordered even = absurd (true≢false even)
  parts_points x key (e ∷ f ∷ rest) ordered even =
      in_part p e f ordered.0 ordered.2.0 (parts_between k end_place part rest) x key
      ∙ ap (λ b. (is_behind x e && is_lt (R (Some x) (place f))) || b) (parts_points x key rest ordered.2.2 (even_rest (odd (λ _. true) rest) even))
      ∙ part_tests (is_lt (R (Some x) (place e))) (is_lt (R (Some x) (place f))) (odd (is_behind x) rest)
      (λ l. below o (Some x) (place e) (place f) l (le_Less ordered.1))
      (not_yet (is_lt (R (Some x) (place f))) refl)
    where
      not_yet : (b : Bool) → is_lt (R (Some x) (place f)) ≡ b → odd (is_behind x) rest ≡ true → is_lt (R (Some x) (place f)) ≡ false
      not_yet true h g = absurd (true≢false (sym g ∙ odd_later x (place f) rest ordered.2.1 ordered.2.2 h))
      not_yet false h g = h

  -- ---- the parts are canonical

  parts_after : (at : Option K) (es : List (EndpointOf X)) → AreAbove at es → AreOrdered es → StartsAfter p at (parts_between k end_place part es)
  parts_after at [] above ordered = tt
  parts_after at (e ∷ []) above ordered = tt
  parts_after at (e ∷ f ∷ rest) above ordered = by (is_before k end_place e f) refl
    where
      by : (b : Bool) → is_before k end_place e f ≡ b → StartsAfter p at (cond b (part e f ∷ parts_between k end_place part rest) (parts_between k end_place part rest))
      by true h =
          let s = p.spans e f ordered.0 ordered.2.0 h in
          lt_eq o {a = at} {b = place e} {c = Some (k.start (part e f))} above (eq_turn o {a = Some (k.start (part e f))} {b = place e} s.from)
      by false h = absurd (true≢false (sym (ap is_lt ordered.1) ∙ h))

  parts_canonical : (es : List (EndpointOf X)) → AreOrdered es → IsCanonicalSet k (parts_between k end_place part es)
  parts_canonical [] ordered = tt
  parts_canonical (e ∷ []) ordered = tt
  parts_canonical (e ∷ f ∷ rest) ordered = by (is_before k end_place e f) refl (parts_canonical rest ordered.2.2)
    where
      by : (b : Bool) → is_before k end_place e f ≡ b → IsCanonicalSet k (parts_between k end_place part rest) → IsCanonicalSet k (cond b (part e f ∷ parts_between k end_place part rest) (parts_between k end_place part rest))
      by true h later =
          let s = p.spans e f ordered.0 ordered.2.0 h in
          canonical_cons p (part e f) (parts_between k end_place part rest) s.storable
          (after_sooner p (end_place (part e f)) (place f) (parts_between k end_place part rest) (le_Equal s.to) (parts_after (place f) rest ordered.2.1 ordered.2.2)) later
      by false h later = later

  -- the parts between the crossed edges are what exactly one list has
  pub are_one_only : (ps qs : List X) → IsCanonicalSet k ps → IsCanonicalSet k qs → AreOneOnly k ps qs (exchanged_items k end_place part ps qs)
  are_one_only ps qs can_p can_q = record {
    canonical = parts_canonical edges ordered;
    points = λ x key.
        parts_points x key edges ordered even
        ∙ crossed_odd k end_place (is_behind x) (agree x) (edges_of ps) (edges_of qs)
        ∙ ap₂ one_of (sym (edges_cover x key ps can_p)) (sym (edges_cover x key qs can_q));
  }
    where
      edges : List (EndpointOf X)
      edges = crossed k end_place (edges_of ps) (edges_of qs)

      ordered : AreOrdered edges
      ordered = crossed_ordered (edges_of ps) (edges_of qs) (edges_ordered ps can_p) (edges_ordered qs can_q)

      even : odd (λ _. true) edges ≡ false
      even = crossed_odd k end_place (λ _. true) (λ e f h g. refl) (edges_of ps) (edges_of qs) ∙ ap₂ one_of (edges_even ps) (edges_even qs)
