use Rattle.lab_views.proofs.RowLemmas.{shows_value, has_row, shows_the_same}
use Rattle.lab_views.proofs.laws.change_is_shown.Goals as goal

pub returns : goal.returns
returns c p reference name place value found = record {
  rows = λ whole. shows_value p reference name place value whole found;
  row = λ whole. has_row p reference name place value whole found;
  others = λ other apart. shows_the_same p reference other name place value found apart;
}
