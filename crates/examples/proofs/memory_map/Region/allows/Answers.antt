use Rattle.std.proofs.Common.{ap, sym}
use Rattle.examples.specs.MemoryMap.{allows}
use Rattle.examples.proofs.memory_map.Region.allows.Goals as goal

pub returns-in-Read : goal.returns-in-Read
returns-in-Read c = sym (ap (allows c.args.self.now) c.in-Read.is)

pub returns-in-Write : goal.returns-in-Write
returns-in-Write c = sym (ap (allows c.args.self.now) c.in-Write.is)

pub returns-in-Execute : goal.returns-in-Execute
returns-in-Execute c = sym (ap (allows c.args.self.now) c.in-Execute.is)
