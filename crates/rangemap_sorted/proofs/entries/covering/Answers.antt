use Rattle.std.proofs.Common.{arith, ◌≡◌, ◌*◌, ◌^◌, ◌<◌, ◌≤◌, ◌∙◌, length, sym}
use Rattle.rangemap_sorted.proofs.CoveringLemmas.{as_many, starts_rise, none_covers, last_covers, last_misses}
use Rattle.rangemap_sorted.proofs.ReadLemmas.{reaches_alike}
use Rattle.rangemap_sorted.proofs.entries.covering.Goals.{After-asked-asked}
use Rattle.rangemap_sorted.proofs.entries.covering.Goals as goal

pub count_up_to-count-requires-clause-rising : goal.count_up_to-count-requires-clause-rising
count_up_to-count-requires-clause-rising g c =
    rw (c.new-probe.ensures.starts) (starts_rise g.met.Q.Kind.placed g.V.PartialEq.eq c.args.key.now c.args.pairs.now c.requires)

-- what the search asked for, of as many starts as there are pairs
asks : (g : _) (c : After-asked-asked g)
    → (length c.args.pairs.now ≡ 0 → c.asked-asked.result ≡ 0)
    × (0 < length c.args.pairs.now → 1 ≤ c.asked-asked.result)
    × (0 < length c.args.pairs.now → 2 ^ c.asked-asked.result ≤ 2 * length c.args.pairs.now)
asks g c =
    let same : length c.new-probe.result.0 ≡ length c.args.pairs.now = as_many g.Q.Kind.kind c.args.pairs.now c.new-probe.result.0 c.new-probe.ensures.starts in
    let found = c.count_up_to-count.ensures in (
      λ none. c.asked-asked.ensures ∙ found.none_asked (same ∙ none),
      λ some. rw c.asked-asked.ensures (found.asked (rw same some)),
      λ some. rw (c.asked-asked.ensures, ← same) (found.few_asked (rw same some)),
    )

pub returns-then-count-eq0 : goal.returns-then-count-eq0
returns-then-count-eq0 g c =
    let asked = asks g (goal.at.returns-then-count-eq0 g c).After-asked-asked in
    record { pair = none_covers g.met.Q.Kind.placed g.V.PartialEq.eq c.args.key.now c.args.pairs.now c.requires c.known.ensures c.new-probe.result.0 c.count_up_to-count.result c.new-probe.ensures.starts c.count_up_to-count.ensures.bound c.count_up_to-count.ensures.point c.if-count-eq0.true; none_asked = asked.0; asked = asked.1; few_asked = asked.2 }

pub returns-then-reaches : goal.returns-then-reaches
returns-then-reaches g c =
    let pair = last_covers g.met.Q.Kind.placed g.V.PartialEq.eq c.args.key.now c.args.pairs.now c.requires c.known.ensures c.new-probe.result.0 c.count_up_to-count.result c.new-probe.ensures.starts c.count_up_to-count.ensures.bound c.count_up_to-count.ensures.point g.met.Q.Kind.interval c.index-pairs-count.result (omega arith) c.index-pairs-count.is (reaches_alike g.met.Q.Kind.reads g.R.KeyRange.has_end c.index-pairs-count.result.0 c.args.key.now ∙ sym c.reaches.ensures ∙ c.if-reaches.true) in
    let asked = asks g (goal.at.returns-then-reaches g c).After-asked-asked in
    record { pair = pair; none_asked = asked.0; asked = asked.1; few_asked = asked.2 }

pub returns-else-reaches : goal.returns-else-reaches
returns-else-reaches g c =
    let pair = last_misses g.met.Q.Kind.placed g.V.PartialEq.eq c.args.key.now c.args.pairs.now c.requires c.known.ensures c.new-probe.result.0 c.count_up_to-count.result c.new-probe.ensures.starts c.count_up_to-count.ensures.bound c.count_up_to-count.ensures.point g.met.Q.Kind.interval c.index-pairs-count.result (omega arith) c.index-pairs-count.is (reaches_alike g.met.Q.Kind.reads g.R.KeyRange.has_end c.index-pairs-count.result.0 c.args.key.now ∙ sym c.reaches.ensures ∙ c.if-reaches.false) in
    let asked = asks g (goal.at.returns-else-reaches g c).After-asked-asked in
    record { pair = pair; none_asked = asked.0; asked = asked.1; few_asked = asked.2 }
