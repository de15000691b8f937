use Rattle.std.proofs.Common.{◌≡◌, length, ◌∙◌, ap, sym, subst, arith}
use Rattle.std.proofs.lemmas.List.{take_at, drop_at}
use Rattle.mdf_format.specs.Field.{bit_of}
use Rattle.mdf_layout.specs.Written.{IsFree, IsFreePosition}
use Rattle.mdf_layout.proofs.shape.Shape.encode.Goals as goal

pub returns-clause-unused : goal.returns-clause-unused
returns-clause-unused c = λ p free.
    let rows_are = c.as_slice.ensures ∙ ap (λ l. l.rows) c.self.view_is in
    let front = take_at c.encode_into.new.content c.encode_into.new.inval c.args.self.now.data_bytes
    (omega (arith, c.encode_into.ensures.size, c.split_at_mut-content.ensures.front_len, ap (λ l. l.data_bytes) c.self.view_is)) in
    ap (λ bytes. bit_of bytes p) front ∙ c.encode_into.ensures.unused p (subst (λ rows. IsFree rows p) (sym rows_are) free)

pub returns-clause-unused_positions : goal.returns-clause-unused_positions
returns-clause-unused_positions c = λ p free.
    let rows_are = c.as_slice.ensures ∙ ap (λ l. l.rows) c.self.view_is in
    let back = drop_at c.encode_into.new.content c.encode_into.new.inval c.args.self.now.data_bytes
    (omega (arith, c.encode_into.ensures.size, c.split_at_mut-content.ensures.front_len, ap (λ l. l.data_bytes) c.self.view_is)) in
    ap (λ bytes. bit_of bytes p) back ∙ c.encode_into.ensures.unused_positions p (subst (λ rows. IsFreePosition rows p) (sym rows_are) free)

pub returns-clause-values : goal.returns-clause-values
returns-clause-values c =
    let rows_are = c.as_slice.ensures ∙ ap (λ l. l.rows) c.self.view_is in
    let front = take_at c.encode_into.new.content c.encode_into.new.inval c.args.self.now.data_bytes
    (omega (arith, c.encode_into.ensures.size, c.split_at_mut-content.ensures.front_len, ap (λ l. l.data_bytes) c.self.view_is)) in
    rw front (rw (rows_are, c.as_slice-2.ensures) at c.encode_into.ensures.values)

pub returns-clause-marks : goal.returns-clause-marks
returns-clause-marks c =
    let rows_are = c.as_slice.ensures ∙ ap (λ l. l.rows) c.self.view_is in
    let back = drop_at c.encode_into.new.content c.encode_into.new.inval c.args.self.now.data_bytes
    (omega (arith, c.encode_into.ensures.size, c.split_at_mut-content.ensures.front_len, ap (λ l. l.data_bytes) c.self.view_is)) in
    rw back (rw (rows_are, c.as_slice-2.ensures) at c.encode_into.ensures.marks)

pub returns-clause-sample : goal.returns-clause-sample
returns-clause-sample c =
    let rows_are = c.as_slice.ensures ∙ ap (λ l. l.rows) c.self.view_is in
    let long : length c.encode_into.new.content ≡ c.args.self.now.data_bytes = omega (arith, c.encode_into.ensures.size, c.split_at_mut-content.ensures.front_len, ap (λ l. l.data_bytes) c.self.view_is) in
    let front = take_at c.encode_into.new.content c.encode_into.new.inval c.args.self.now.data_bytes long in
    let back = drop_at c.encode_into.new.content c.encode_into.new.inval c.args.self.now.data_bytes long in
    rw (front, back) (rw (rows_are, c.as_slice-2.ensures) at c.encode_into.ensures.sample)
