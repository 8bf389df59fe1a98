use Rattle.std.proofs.Common.{arith, rules, ◌≡◌, ◌<◌, ◌≤◌, length, Some, take}
use Rattle.std.proofs.lemmas.List.{take_all, take_more}
use Rattle.std.proofs.lemmas.Result.{IfErr-weaker, err_from_is_err_and}
use Rattle.rangemap_formats.proofs.ReadingLemmas.{Inserted-more, Inserted-none, Inserted-same, at_place, refused_entry, refused_insert, refused_order}
use Rattle.rangemap_formats.proofs.RoundTripLemmas.{refused_for_memory}
use Rattle.rangemap_formats.specs.Json.{IsRefusedForMemoryAlone, RefusesToRead, list_of}
use Rattle.serde_json.specs.declared.value.Value.{the_lemmas}
use Rattle.rangemap_formats.proofs.json.reading.read.Goals as goal

pub loop-at-init : goal.loop-at-init
loop-at-init g c =
    Inserted-none g.S.Kind.Kind.kind g.met.S.Kind.Kind.placed g.S.Value.PartialEq.eq g.met.S.Value.Eq.laws (g.R.ReadsParts.reader c.args.reader.now)
    c.args.form (g.S.Store.pairs c.empty-all.result) c.empty-all.ensures

pub returns-in_err-range-clause-err : goal.returns-in_err-range-clause-err
returns-in_err-range-clause-err g c =
    let xs = c.deref-entry-items.result.now in
    let is_list : list_of c.args.value.now ≡ Some xs = search (rules, the_lemmas) in
    let entry = c.entry-item.result in
    let here : c.loop-at.at < length xs = omega arith in
    let left = err_from_is_err_and c.from_residual.result c.from_residual.ensures.1 in
    rw (left.1, left.2)
    (refused_entry g.S.Kind.Kind.kind g.met.S.Kind.Kind.placed g.S.Value.PartialEq.eq g.met.S.Value.Eq.laws (g.R.ReadsParts.reader c.args.reader.now)
    c.args.form c.args.value.now xs is_list c.loop-at.at (g.S.Store.pairs c.loop-at.all) c.loop-at.invariant
    entry (at_place xs c.loop-at.at entry here c.entry-item.is) c.in_err-range.field-0.0 c.in_err-range.ensures.err)

pub returns-in_err-range-clause-exact : goal.returns-in_err-range-clause-exact
returns-in_err-range-clause-exact g c =
    let k = g.S.Kind.Kind.kind in
    let eq = g.S.Value.PartialEq.eq in
    let r = g.R.ReadsParts.reader c.args.reader.now in
    IfErr-weaker c.from_residual.result (RefusesToRead k r eq c.args.form c.args.value.now) (IsRefusedForMemoryAlone k r eq c.args.form c.args.value.now)
    (refused_for_memory k g.met.S.Kind.Kind.placed eq g.met.S.Value.Eq.laws r (g.R.ReadsParts.unambiguous c.args.reader.now) c.args.value.now c.args.form)
    (returns-in_err-range-clause-err g c)

pub returns-in_err-check_form-clause-err : goal.returns-in_err-check_form-clause-err
returns-in_err-check_form-clause-err g c =
    let xs = c.deref-entry-items.result.now in
    let is_list : list_of c.args.value.now ≡ Some xs = search (rules, the_lemmas) in
    let entry = c.entry-item.result in
    let here : c.loop-at.at < length xs = omega arith in
    let pair = c.in_ok-range.ensures.ok in
    let left = err_from_is_err_and c.from_residual-in_err-check_form.result c.from_residual-in_err-check_form.ensures.1 in
    let why = c.in_err-check_form.ensures.err in
    rw (left.1, left.2)
    (refused_order g.S.Kind.Kind.kind g.met.S.Kind.Kind.placed g.S.Value.PartialEq.eq g.met.S.Value.Eq.laws (g.R.ReadsParts.reader c.args.reader.now)
    c.args.form c.args.value.now xs is_list c.loop-at.at (g.S.Store.pairs c.loop-at.all) c.loop-at.invariant
    entry (at_place xs c.loop-at.at entry here c.entry-item.is)
    (c.in_ok-range.range, c.in_ok-range.value) pair.1 pair.0
    why.0 why.1.0 why.1.1 c.in_err-check_form.field-0.0 why.1.2)

pub returns-in_err-check_form-clause-exact : goal.returns-in_err-check_form-clause-exact
returns-in_err-check_form-clause-exact g c =
    let k = g.S.Kind.Kind.kind in
    let eq = g.S.Value.PartialEq.eq in
    let r = g.R.ReadsParts.reader c.args.reader.now in
    IfErr-weaker c.from_residual-in_err-check_form.result (RefusesToRead k r eq c.args.form c.args.value.now) (IsRefusedForMemoryAlone k r eq c.args.form c.args.value.now)
    (refused_for_memory k g.met.S.Kind.Kind.placed eq g.met.S.Value.Eq.laws r (g.R.ReadsParts.unambiguous c.args.reader.now) c.args.value.now c.args.form)
    (returns-in_err-check_form-clause-err g c)

pub returns-in_err-insert-clause-err : goal.returns-in_err-insert-clause-err
returns-in_err-insert-clause-err g c =
    let xs = c.deref-entry-items.result.now in
    let is_list : list_of c.args.value.now ≡ Some xs = search (rules, the_lemmas) in
    let entry = c.entry-item.result in
    let here : c.loop-at.at < length xs = omega arith in
    let pair = c.in_ok-range.ensures.ok in
    let left = err_from_is_err_and c.from_residual-in_err-insert.result c.from_residual-in_err-insert.ensures.1 in
    rw (left.1, left.2)
    (refused_insert g.S.Kind.Kind.kind g.met.S.Kind.Kind.placed g.S.Value.PartialEq.eq g.met.S.Value.Eq.laws (g.R.ReadsParts.reader c.args.reader.now)
    c.args.form c.args.value.now xs is_list c.loop-at.at (g.S.Store.pairs c.loop-at.all) c.loop-at.invariant
    entry (at_place xs c.loop-at.at entry here c.entry-item.is)
    (c.in_ok-range.range, c.in_ok-range.value) pair.1 pair.0 c.in_ok-check_form.ensures.ok)

pub loop-at-preserved : goal.loop-at-preserved
loop-at-preserved g c =
    let xs = c.deref-entry-items.result.now in
    let is_list : list_of c.args.value.now ≡ Some xs = search (rules, the_lemmas) in
    let entry = c.entry-item.result in
    let here : c.loop-at.at < length xs = omega arith in
    let pair = c.in_ok-range.ensures.ok in
    rw (take_more xs c.loop-at.at entry here, ← c.entry-item.is)
    (Inserted-more g.S.Kind.Kind.kind g.met.S.Kind.Kind.placed g.S.Value.PartialEq.eq g.met.S.Value.Eq.laws (g.R.ReadsParts.reader c.args.reader.now)
    c.args.form (take c.loop-at.at xs) (g.S.Store.pairs c.loop-at.all) c.loop-at.invariant
    entry (c.in_ok-range.range, c.in_ok-range.value) pair.1 pair.0
    (g.S.Store.pairs c.insert.new.self) c.in_ok-check_form.ensures.ok c.in_ok-insert.ensures.ok)

pub returns-clause-ok : goal.returns-clause-ok
returns-clause-ok g c =
    let xs = c.deref-entry-items.result.now in
    let is_list : list_of c.args.value.now ≡ Some xs = search (rules, the_lemmas) in
    let done : length xs ≤ c.loop-at.at = omega arith in
    let inserted = rw (take_all c.loop-at.at xs done) at c.loop-at.invariant in
    record {
      entries = xs;
      is_list = is_list;
      inserted = inserted;
      same = Inserted-same g.S.Kind.Kind.kind g.met.S.Kind.Kind.placed g.S.Value.PartialEq.eq g.met.S.Value.Eq.laws (g.R.ReadsParts.reader c.args.reader.now)
          c.args.form xs (g.S.Store.pairs c.loop-at.all) inserted;
    }
