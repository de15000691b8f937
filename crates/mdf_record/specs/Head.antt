-- The head of a recording of a script that starts at this time in ns: that of its groups, in its form.
use Rattle.std.specs.Prelude.{ℕ, List}
use Rattle.acq_script.specs.declared.script.Script.{Script}
use Rattle.mdf_spell.specs.Recording.{head_file}

abbrev pub script_head : ℕ → Script → List ℕ
script_head now script = head_file script.plan.form now script.plan.rows
