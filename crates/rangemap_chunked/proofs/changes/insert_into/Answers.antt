use Rattle.std.proofs.Common.{arith, rules, ◌≡◌, ◌∙◌, ◌++◌, ◌∷◌, [], List, Some, ap, append-nil, drop, eqb-true, length, subst, sym, true}
use Rattle.std.proofs.lemmas.Fn.{always_returns_same}
use Rattle.std.proofs.lemmas.List.{nil_from_length}
use Rattle.std.specs.List.{AllWithin}
use Rattle.std.specs.List.Sorted.{IsPartitionedBy}
use Rattle.rangemap_core.specs.Ranges.{IsCanonical, IsStorable, value_at}
use Rattle.rangemap_core.proofs.ListLemmas.{Every-map}
use Rattle.rangemap_core.proofs.PlaceLemmas.{S, places}
use Rattle.rangemap_core.proofs.PlaceOrderLemmas.{lt_le}
use Rattle.rangemap_sorted.specs.Changes.{IsChanged}
use Rattle.rangemap_chunked.specs.Chunks.{AreChunks, AreFilled, IsClearBehind, IsCounted, chunk_by, whole}
use Rattle.rangemap_chunked.proofs.ChunkLemmas.{by_chunked, ends_clear, spaced_whole}
use Rattle.rangemap_chunked.proofs.StoreLemmas.{override_fills}
use Rattle.rangemap_chunked.proofs.changes.insert_into.Goals as goal
use Rattle.rangemap_chunked.proofs.changes.insert_into.Goals.{After-first_failing-end}

pub change-requires-clause-canonical : goal.change-requires-clause-canonical
change-requires-clause-canonical g c = subst (IsCanonical g.Q.Kind.kind g.V.PartialEq.eq) (sym c.empty-chunk.ensures) tt

pub returns-then-is_empty : goal.returns-then-is_empty
returns-then-is_empty g c =
    let k = g.Q.Kind.kind in
    let eq = g.V.PartialEq.eq in
    let one = c.change.new.self in
    let none = nil_from_length c.args.chunks.now.items (sym c.args.chunks.now.ok.0 ∙ eqb-true c.args.chunks.now.len 0 (sym c.is_empty.ensures ∙ c.if-is_empty.true)) in
    let now = c.in_ok-push.ensures.items ∙ ap (λ (ps : List (List (g.row.R.Denot × g.row.V.Denot))). ps ++ one ∷ []) none in
    let after : whole c.push.new.self.items ≡ one = ap (λ (ps : List (List (g.row.R.Denot × g.row.V.Denot))). whole ps) now ∙ append-nil one in
    let before : whole c.args.chunks.now.items ≡ [] = ap (λ (ps : List (List (g.row.R.Denot × g.row.V.Denot))). whole ps) none in
    let stored : IsStorable k c.args.range = record { start_is_key = c.known_ends.ensures.start_is_key; end_is_key = c.known_ends.ensures.end_is_key; non_empty = c.requires.non_empty } in
    let filled = override_fills g.met.Q.Kind.placed g.met.V.Eq.laws (value_at k c.empty-chunk.result) c.args.range c.args.value one stored c.in_ok-change.ensures.ok.canon in
    let size_before = ap length before in
    let size_after = ap length after in
    let empty : length c.empty-chunk.result ≡ 0 = ap length c.empty-chunk.ensures in
    record {
      ok =
          subst (λ (ys : List (g.row.R.Denot × g.row.V.Denot)). IsChanged k eq (value_at k (whole c.args.chunks.now.items)) c.args.range (Some c.args.value) ys) (sym after)
          (subst (λ (xs : List (g.row.R.Denot × g.row.V.Denot)). IsChanged k eq (value_at k xs) c.args.range (Some c.args.value) one) (c.empty-chunk.ensures ∙ sym before) c.in_ok-change.ensures.ok);
      filled = subst (λ (ps : List (List (g.row.R.Denot × g.row.V.Denot))). AreFilled ps) (sym now) (filled, tt);
      err = search rules;
      counted = record {
        sum = omega (arith, size_before, size_after, c.len-after.ensures);
        some = omega arith;
        growth = omega (arith, empty, c.len-after.ensures, c.in_ok-change.ensures.growth);
        growth_where_all_are_equal = λ equal. let growth = c.in_ok-change.ensures.growth_where_all_are_equal equal in omega (arith, empty, c.len-after.ensures, growth);
      };
    }

pub settle-requires-clause-before : goal.settle-requires-clause-before
settle-requires-clause-before g c = c.in_ok-counts.ensures.filled.before

pub settle-requires-clause-behind : goal.settle-requires-clause-behind
settle-requires-clause-behind g c = c.in_ok-counts.ensures.filled.behind

-- the chunks, as they were lent to the search for the last one
lent : (g : _) (c : After-first_failing-end g) → AreChunks g.Q.Kind.kind g.V.PartialEq.eq c.deref-2.result.now
lent g c = subst (λ (ps : List (List (g.row.R.Denot × g.row.V.Denot))). AreChunks g.Q.Kind.kind g.V.PartialEq.eq ps) (sym c.deref-2.ensures.value) c.requires.chunked

parted : (g : _) (c : After-first_failing-end g) → IsPartitionedBy (chunk_by (S g.met.Q.Kind.placed g.V.PartialEq.eq) (g.Q.Kind.end_place c.args.range)) c.deref-2.result.now
parted g c =
    let p = g.met.Q.Kind.placed in
    let eq = g.V.PartialEq.eq in
    by_chunked (S p eq) (places p eq) g.met.V.Eq.laws (g.Q.Kind.end_place c.args.range) c.deref-2.result.now (spaced_whole p g.met.V.Eq.laws c.deref-2.result.now (lent g c)) (lent g c).filled

pub change_over-requires-clause-begun : goal.change_over-requires-clause-begun
change_over-requires-clause-begun g c = λ more.
    let test = chunk_by (S g.met.Q.Kind.placed g.V.PartialEq.eq) (g.Q.Kind.end_place c.args.range) in
    subst (λ (ps : List (List (g.row.R.Denot × g.row.V.Denot))). AllWithin (λ (chunk : List (g.row.R.Denot × g.row.V.Denot)). test chunk ≡ true) ps 0 c.first_failing-end.result) c.deref-2.ensures.value
    (c.first_failing-end.ensures.passing test (always_returns_same _ _ _ (λ a r f called. search rules)) (parted g (goal.at.change_over-requires-clause-begun g c).After-first_failing-end) more)

pub change_over-requires-clause-clear : goal.change_over-requires-clause-clear
change_over-requires-clause-clear g c =
    let p = g.met.Q.Kind.placed in
    let eq = g.V.PartialEq.eq in
    let end = c.first_failing-end in
    subst (λ (ps : List (List (g.row.R.Denot × g.row.V.Denot))). IsClearBehind (S p eq) ps c.args.range end.result) c.deref-2.ensures.value
    (ends_clear p g.met.V.Eq.laws c.deref-2.result.now (lent g (goal.at.change_over-requires-clause-clear g c).After-first_failing-end) c.args.range end.result end.ensures.bound
    (end.ensures.failing (chunk_by (S p eq) (g.Q.Kind.end_place c.args.range)) (always_returns_same _ _ _ (λ a r f called. search rules)) (parted g (goal.at.change_over-requires-clause-clear g c).After-first_failing-end)))

pub change_over-requires-clause-behind : goal.change_over-requires-clause-behind
change_over-requires-clause-behind g c = Every-map _ _ (whole (drop c.first_failing-end.result c.args.chunks.now.items)) (λ (b : g.row.R.Denot × g.row.V.Denot) less. lt_le (places g.met.Q.Kind.placed g.V.PartialEq.eq) (g.Q.Kind.end_place c.args.range) (Some (g.Q.Kind.kind.start b.0)) less) (change_over-requires-clause-clear g c)

pub returns-clause-counted : goal.returns-clause-counted
returns-clause-counted g c = subst (λ (xs : List (g.row.R.Denot × g.row.V.Denot)). IsCounted g.V.PartialEq.eq 2 (whole c.args.chunks.now.items) xs c.in_ok-counts.counts.before c.in_ok-counts.counts.after) (sym c.settle.ensures.whole) c.in_ok-counts.ensures.counted

pub returns-clause-ok : goal.returns-clause-ok
returns-clause-ok g c =
    let k = g.Q.Kind.kind in
    subst (λ (xs : List (g.row.R.Denot × g.row.V.Denot)). IsChanged k g.V.PartialEq.eq (value_at k (whole c.args.chunks.now.items)) c.args.range (Some c.args.value) xs) (sym c.settle.ensures.whole) c.in_ok-counts.ensures.ok
