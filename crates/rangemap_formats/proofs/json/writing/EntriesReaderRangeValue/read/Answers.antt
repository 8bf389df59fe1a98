use Rattle.std.proofs.Common.{rules, ◌≡◌, ◌∙◌, ◌∷◌, ap}
use Rattle.std.proofs.lemmas.Result.{err_from_is_err_and}
use Rattle.rangemap_core.specs.Shown.{shown}
use Rattle.serde_json.specs.declared.value.Value.{the_lemmas}
use Rattle.rangemap_formats.specs.declared.json.WriteError.TheVariants.{Caller}
use Rattle.rangemap_formats.proofs.WritingLemmas.{caller_weaker, end_refused, parts_written, so_far-all, so_far-next, so_far-none, so_far-refused, start_refused, value_refused}
use Rattle.rangemap_formats.proofs.json.writing.EntriesReaderRangeValue.read.Goals.{After-end, After-start}
use Rattle.rangemap_formats.proofs.json.writing.EntriesReaderRangeValue.read.Goals as goal

-- the pair that was taken, and its start
taken : (g : _) (c : After-start g)
    → (g.C.Cursor.left c.pairs.rest ≡ shown g.C.Cursor.given g.C.Cursor.given_value c.in-Some.pair ∷ g.C.Cursor.left c.take_first.new.self)
    × (c.start.result.now ≡ g.S.Kind.Kind.kind.start (shown g.C.Cursor.given g.C.Cursor.given_value c.in-Some.pair).0)
taken g c = (rw c.in-Some.is at c.take_first.ensures, c.start.ensures ∙ g.met.S.Kind.Kind.reads.start _ ∙ ap g.S.Kind.Kind.kind.start c.parts.ensures.range)

-- its end
ends : (g : _) (c : After-end g) → c.end.result.now ≡ g.S.Kind.Kind.kind.end (shown g.C.Cursor.given g.C.Cursor.given_value c.in-Some.pair).0
ends g c = c.end.ensures ∙ g.met.S.Kind.Kind.reads.end _ ∙ ap g.S.Kind.Kind.kind.end c.parts.ensures.range

pub pairs-init : goal.pairs-init
pairs-init g c = rw c.new-entries.ensures.items (so_far-none g.S.Kind.Kind.kind (g.W.WritesParts.writer c.args.state.now.1) (g.C.Cursor.left c.args.pairs))

pub returns-in-Err : goal.returns-in-Err
returns-in-Err g c =
    let k = g.S.Kind.Kind.kind in
    let w = g.W.WritesParts.writer c.args.state.now.1 in
    let h = taken g (goal.at.returns-in-Err g c).After-start in (
      tt,
      so_far-refused k w _ _ c.pairs.entries.items c.pairs.invariant _ _ h.0 (Caller c.in-Err.fault) (start_refused k w _ _ h.1 c.in-Err.fault c.in-Err.ensures),
    )

pub returns-in-Err-key : goal.returns-in-Err-key
returns-in-Err-key g c =
    let k = g.S.Kind.Kind.kind in
    let w = g.W.WritesParts.writer c.args.state.now.1 in
    let at = goal.at.returns-in-Err-key g c in
    let h = taken g at.After-start in (
      tt,
      so_far-refused k w _ _ c.pairs.entries.items c.pairs.invariant _ _ h.0
          (Caller c.in-Err-key.fault) (end_refused k w _ _ h.1 c.in-Ok.part c.in-Ok.ensures _ (ends g at.After-end) c.in-Err-key.fault c.in-Err-key.ensures),
    )

pub returns-in_err-entry : goal.returns-in_err-entry
returns-in_err-entry g c =
    let k = g.S.Kind.Kind.kind in
    let w = g.W.WritesParts.writer c.args.state.now.1 in
    let at = goal.at.returns-in_err-entry g c in
    let h = taken g at.After-start in
    let left = err_from_is_err_and c.from_residual-in_err-entry.result c.from_residual-in_err-entry.ensures.1 in
    rw (left.1, left.2) (
      tt,
      so_far-refused k w _ _ c.pairs.entries.items c.pairs.invariant _ _ h.0
          c.in_err-entry.field-0.0 (caller_weaker _ _ (value_refused k w _ _ h.1 c.in-Ok.part c.in-Ok.ensures _ (ends g at.After-end) c.in-Ok-key.part c.in-Ok-key.ensures _ c.parts.ensures.value) c.in_err-entry.field-0.0 c.in_err-entry.ensures.err),
    )

pub pairs-preserved : goal.pairs-preserved
pairs-preserved g c =
    let k = g.S.Kind.Kind.kind in
    let w = g.W.WritesParts.writer c.args.state.now.1 in
    let at = goal.at.pairs-preserved g c in
    let h = taken g at.After-start in
    let written = c.in_ok-entry.ensures.ok c.in-Ok.part c.in-Ok-key.part (search (rules, the_lemmas)) in
    rw c.in_ok-push.ensures.items
    (so_far-next k w _ _ c.pairs.entries.items c.pairs.invariant _ _ h.0
    c.in_ok-entry.entry (parts_written k w _ _ h.1 c.in-Ok.part c.in-Ok.ensures _ (ends g at.After-end) c.in-Ok-key.part c.in-Ok-key.ensures _ c.parts.ensures.value written.0 c.in_ok-entry.entry written.1 written.2))

pub returns : goal.returns
returns g c =
    let ended = rw c.in_default.is at c.take_first.ensures in (
      record {
        entries = c.pairs.entries.items;
        is_list = search (rules, the_lemmas);
        written = so_far-all g.S.Kind.Kind.kind (g.W.WritesParts.writer c.args.state.now.1) (g.C.Cursor.left c.args.pairs) (g.C.Cursor.left c.pairs.rest) c.pairs.entries.items c.pairs.invariant ended.0;
      },
      tt,
    )
