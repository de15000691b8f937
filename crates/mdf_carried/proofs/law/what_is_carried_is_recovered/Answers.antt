use Rattle.std.proofs.Common.{ℕ, List, subst}
use Rattle.mdf_layout.specs.Layout.{Layout}
use Rattle.mdf_gate.specs.Carried.{IsCarried}
use Rattle.mdf_spell.specs.Recording.{IsRecordingTree, FindsHead, FindsGroups}
use Rattle.mdf_carried.proofs.law.what_is_carried_is_recovered.Goals as goal

pub returns : goal.returns
returns c = λ form start rows layouts history through file are read layouts_are carries.
    let more = carries.begins.0 in
    let tree = subst (λ (f : List ℕ). IsRecordingTree f start rows) carries.begins.1 (read.tree more) in
    let head_found = subst (λ (f : List ℕ). FindsHead f start rows) carries.begins.1 (read.head_found more) in
    let groups_found = subst (λ (f : List ℕ). FindsGroups f start rows) carries.begins.1 (read.groups_found more) in
    let carried = subst (λ (ls : List Layout). IsCarried ls file carries.samples) layouts_are carries.carried in
    let session = c.what_is_carried_is_read.ensures start rows file carries.samples are tree head_found groups_found carried in
    record {
      readable = record { found = session.0; is_read = session.1 };
      samples = carries.samples;
      recovered = c.recovered_is_carried.ensures start rows file carries.samples are tree carried;
      beginning = carries.beginning;
      enough = carries.enough;
      apart = λ found is. c.recovered_ids_are_apart.ensures start rows file found are tree is;
    }
