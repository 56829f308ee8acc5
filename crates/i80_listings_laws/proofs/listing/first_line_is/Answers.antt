use Rattle.i80_listings_laws.proofs.FirstLine.{first_line, other_lines, first_bytes, first_length}
use Rattle.i80_listings_laws.proofs.listing.first_line_is.Goals as goal

pub returns : goal.returns
returns c bytes some = record {
  line = first_line bytes some;
  others = λ whole. other_lines bytes whole some;
  front = λ are. first_bytes bytes are some;
  count = λ are. first_length bytes are some;
}
