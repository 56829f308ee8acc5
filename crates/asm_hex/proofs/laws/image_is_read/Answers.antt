use Rattle.asm_hex.proofs.ImageRead.{image_read}
use Rattle.asm_hex.proofs.laws.image_is_read.Goals as goal

pub returns : goal.returns
returns c = image_read
