-- The lines of the plan are read as the plan.
use Rattle.std.proofs.Common.{◌≡◌, true, false, List, ℕ, [], ◌∷◌, ◌++◌, Ok, refl}
use Rattle.std.specs.Prelude.{codes}
use Rattle.script_line.specs.Number.{number_of}
use Rattle.script_line.specs.Kind.{count_behind, number_type, named_type, type_of, packed, long}
use Rattle.script_line.specs.Line as said
use Rattle.script_line.specs.Line.{Line, alone, channel_of, group_of, inval_of, marks_of, worded, worded_plan}
use Rattle.acq_script.specs.Script.{script_of}
use Rattle.acq_script.specs.declared.script.Script.{Script}
use Rattle.acq_script.proofs.Lines.{AreSaid, Makes, after_all, parts, says, text_read}
use Rattle.acq_script.specs.Generated.{generated_plan}

-- the lines of the plan, and what they say
abbrev texts : List (List ℕ)
texts =
    codes "group 0 g0"
    ∷ codes "channel t u64 master"
    ∷ codes "channel v u32"
    ∷ codes "group 1 g1"
    ∷ codes "channel t u64 master"
    ∷ codes "channel v u32"
    ∷ codes "group 2 g2"
    ∷ codes "channel t u64 master"
    ∷ codes "channel v u32"
    ∷ codes "group 3 g3"
    ∷ codes "channel t u64 master"
    ∷ codes "channel v u32"
    ∷ codes "channel n var"
    ∷ codes "begin"
    ∷ codes "end"
    ∷ []

abbrev time_line : Line
time_line = said.Channel (codes "t") (record { kind = packed 0 64; master = true; inval = false })

abbrev number_line : Line
number_line = said.Channel (codes "v") (record { kind = packed 0 32; master = false; inval = false })

abbrev value_line : Line
value_line = said.Channel (codes "n") (record { kind = long 10; master = false; inval = false })

abbrev lines : List Line
lines =
    said.Group 0 (codes "g0")
    ∷ time_line
    ∷ number_line
    ∷ said.Group 1 (codes "g1")
    ∷ time_line
    ∷ number_line
    ∷ said.Group 2 (codes "g2")
    ∷ time_line
    ∷ number_line
    ∷ said.Group 3 (codes "g3")
    ∷ time_line
    ∷ number_line
    ∷ value_line
    ∷ said.Begin
    ∷ said.End
    ∷ []

are_said : AreSaid texts lines
unfolding AreSaid parts worded_plan worded group_of channel_of marks_of inval_of type_of number_type named_type count_behind number_of alone
are_said = (
  says (codes "group 0 g0") (codes "group") (codes "0" ∷ codes "g0" ∷ []) refl refl,
  (
    says (codes "channel t u64 master") (codes "channel") (codes "t" ∷ codes "u64" ∷ codes "master" ∷ []) refl refl,
    (
      says (codes "channel v u32") (codes "channel") (codes "v" ∷ codes "u32" ∷ []) refl refl,
      (
        says (codes "group 1 g1") (codes "group") (codes "1" ∷ codes "g1" ∷ []) refl refl,
        (
          says (codes "channel t u64 master") (codes "channel") (codes "t" ∷ codes "u64" ∷ codes "master" ∷ []) refl refl,
          (
            says (codes "channel v u32") (codes "channel") (codes "v" ∷ codes "u32" ∷ []) refl refl,
            (
              says (codes "group 2 g2") (codes "group") (codes "2" ∷ codes "g2" ∷ []) refl refl,
              (
                says (codes "channel t u64 master") (codes "channel") (codes "t" ∷ codes "u64" ∷ codes "master" ∷ []) refl refl,
                (
                  says (codes "channel v u32") (codes "channel") (codes "v" ∷ codes "u32" ∷ []) refl refl,
                  (
                    says (codes "group 3 g3") (codes "group") (codes "3" ∷ codes "g3" ∷ []) refl refl,
                    (
                      says (codes "channel t u64 master") (codes "channel") (codes "t" ∷ codes "u64" ∷ codes "master" ∷ []) refl refl,
                      (
                        says (codes "channel v u32") (codes "channel") (codes "v" ∷ codes "u32" ∷ []) refl refl,
                        (
                          says (codes "channel n var") (codes "channel") (codes "n" ∷ codes "var" ∷ []) refl refl,
                          (
                            says (codes "begin") (codes "begin") ([]) refl refl,
                            (
                              says (codes "end") (codes "end") ([]) refl refl,
                              tt,
                            ),
                          ),
                        ),
                      ),
                    ),
                  ),
                ),
              ),
            ),
          ),
        ),
      ),
    ),
  ),
)

abbrev pub script : Script
script = record { plan = generated_plan; lists = [] ∷ [] ∷ [] ∷ [] ∷ [] }

makes : Makes lines script
unfolding after_all
makes = refl

-- the text of the plan
abbrev pub plan_text : List ℕ
plan_text = codes "group 0 g0\nchannel t u64 master\nchannel v u32\ngroup 1 g1\nchannel t u64 master\nchannel v u32\ngroup 2 g2\nchannel t u64 master\nchannel v u32\ngroup 3 g3\nchannel t u64 master\nchannel v u32\nchannel n var\nbegin\nend\n"

cut : parts 10 plan_text ≡ texts ++ [] ∷ []
unfolding parts
cut = refl

pub plan_read : script_of plan_text ≡ Ok script
plan_read = text_read plan_text texts lines script cut are_said makes
