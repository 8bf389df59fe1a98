use Rattle.std.proofs.Common.{sym, true≢false}
use Rattle.rangemap_laws.proofs.definitions.list_rows.Goals as goal

-- the functions differ at 3
pub returns-clause-not_changed : goal.returns-clause-not_changed
returns-clause-not_changed c = λ h. true≢false (sym (h.represents 3 tt))
