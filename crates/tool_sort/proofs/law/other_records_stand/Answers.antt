use Rattle.tool_sort.proofs.law.other_records_stand.Goals as goal

pub returns : goal.returns
returns c = λ file m count content streams is samples. record {
  row = is.row;
  no_values = is.no_values;
  place = is.place;
  comment = is.comment;
  ruled = is.ruled;
  shape = is.shape;
  samples = samples;
}
