-- What is printed of a file, by what is asked of it.
use Rattle.std.specs.Prelude.{ℕ, List}
use Rattle.mdf_inspect.specs.Check.{verdict_text}
use Rattle.mdf_inspect.specs.Info.{contents_text}
use Rattle.mdf_inspect.specs.declared.answer.Question.{Question}
use Rattle.mdf_inspect.specs.declared.answer.Question.TheVariants.{Verdict, Contents}
use Rattle.mdf_inspect.specs.Reading.{Reading}

abbrev pub text_for : Question → Reading → List ℕ
text_for Verdict = verdict_text
text_for Contents = contents_text
