-- A line as the code has it.
use Rattle.script_line.specs.Text.{words_left}
use Rattle.script_line.specs.Line as said
use Rattle.script_line.specs.declared.line.Line.{Line}
use Rattle.script_line.specs.declared.line.Line.TheVariants.{Passed, Block, Session, Form, Live, Group, Channel, Unit, Begin, Sample, Flush, End}

abbrev pub seen : Line → said.Line
seen Passed = said.Passed
seen (Block limit) = said.Block limit
seen (Session limit) = said.Session limit
seen (Form number) = said.Form number
seen Live = said.Live
seen (Group source name) = said.Group source name.now
seen (Channel name form) = said.Channel name.now form
seen (Unit name) = said.Measured name.now
seen Begin = said.Begin
seen (Sample group values) = said.Sample group (words_left values)
seen (Flush source) = said.Flush source
seen End = said.End
