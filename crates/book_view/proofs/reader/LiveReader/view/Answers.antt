use Rattle.book_view.proofs.Rules.{enters}
use Rattle.book_view.proofs.reader.LiveReader.view.Goals as goal

pub enter_as-requires : goal.enter_as-requires
enter_as-requires c = enters _ _
