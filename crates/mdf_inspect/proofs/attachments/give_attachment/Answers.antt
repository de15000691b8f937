use Rattle.mdf_inspect.proofs.attachments.give_attachment.Goals as goal

pub returns : goal.returns
returns g c = rw (c.name_text.ensures, c.says_text.ensures) at c.give_line.ensures
