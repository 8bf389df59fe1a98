-- A line whose name is no text.
use Rattle.rangerun_library.proofs.Reading.{no_booking_text}
use Rattle.rangerun_library.proofs.calendar_command.CalendarCommand.parse.Goals as goal

pub returns-in_default : goal.returns-in_default
returns-in_default c = no_booking_text _ _ _ c.divide.ensures c.in_default.ensures.cases.0
