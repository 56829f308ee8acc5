-- The text of a program assembles.
use Rattle.std.proofs.Common.{◌≡◌, ℕ, zero, suc, ◌+◌, ◌<◌, ◌≤◌, List, [], ◌∷◌, ◌++◌, length, map, replicate}
use Rattle.std.proofs.Common.{Bool, true, false, if◌then◌else◌, nat_lt, Option, Some, None, Result, Ok, Err}
use Rattle.std.proofs.Common.{IfSome, IfOk, All, is_some, option_map, unwrap_or, position, set}
use Rattle.std.proofs.Common.{refl, sym, ap, subst, ◌∙◌, arith}
use Rattle.std.proofs.Math.ListN.{length-replicate, length-append, length-map}
use Rattle.std.proofs.lemmas.Bool.Decides.{nat_tests}
use Rattle.std.proofs.lemmas.List.{length-set}
use Rattle.std.proofs.lemmas.List.Quantifiers.{position-Some}
use Rattle.std.specs.Option.{option_or}
use Rattle.std.specs.Str.Lines.{lines}
use Rattle.asm_hex.specs.Outcome.{FileFault, ◌>>=◌}
use Rattle.asm_hex.specs.Contents.{hex_of}
use Rattle.asm_hex.specs.Cells.{fill, cells_of}
use Rattle.asm_build.specs.Reading.{Entries}
use Rattle.i80_listings_laws.specs.Runs.{present}
use Rattle.i80_listings_laws.specs.Text.{listings_of}
use Rattle.i80_listings_laws.specs.Law.{HaveBytes, AssemblesWith}
use Rattle.i80_listings_laws.proofs.Assembled.{listings_assemble}
use Rattle.dap_messages.specs.declared.file_kind.ImageKind.{ImageKind}
use Rattle.dap_messages.specs.declared.file_kind.ImageKind.TheVariants as kind
use Rattle.dap_image.specs.declared.fault.ImageFault.{ImageFault}
use Rattle.dap_image.specs.declared.fault.ImageFault.TheVariants as fault
use Rattle.dap_image.specs.declared.text.ImagePlace.{ImagePlace}
use Rattle.dap_image.specs.Images.{Cells, Image, file_image, cells_from, bytes_image, image_of, start_in}
use Rattle.dap_image.specs.Texts.{program_from, placed_image, program_for, short_text, listing_for, text_for}
use Rattle.dap_image.specs.Law.{AreInRange}
use Rattle.dap_image.proofs.HexBytes.{AreBytes, IsFile, hex_good}

-- ---- memories

-- at most 65,536 cells, with bytes; and a start that is an address
record IsImage (image : Image) : Type 0 where
  bytes : HaveBytes image.0
  size : length image.0 ≤ 65536
  start : IfSome image.1 (λ start. start < 65536)

none_have : (n : ℕ) (cells : Cells) → HaveBytes cells → HaveBytes (replicate n None ++ cells)
none_have zero cells all = all
none_have (suc n) cells all = none_have n cells all

some_have : (bytes : List ℕ) → All (λ byte. byte < 256) bytes → HaveBytes (map Some bytes)
some_have [] all = tt
some_have (b ∷ bytes) all =
    (all 0 b (omega arith), some_have bytes (λ k d inside. all (suc k) d (omega (arith, inside))))

set_have : (cells : Cells) (i b : ℕ) → HaveBytes cells → b < 256 → HaveBytes (set cells i (Some b))
set_have [] i b all small = tt
set_have (None ∷ cells) zero b all small = (small, all)
set_have (Some x ∷ cells) zero b all small = (small, all.1)
set_have (None ∷ cells) (suc i) b all small = set_have cells i b all small
set_have (Some x ∷ cells) (suc i) b all small = (all.0, set_have cells i b all.1 small)

fill_have : (ps : List (ℕ × ℕ)) (cells : Cells) → AreBytes ps → HaveBytes cells → HaveBytes (fill ps cells)
fill_have [] cells bytes all = all
fill_have (p ∷ ps) cells bytes all =
    fill_have ps (set cells p.0 (Some p.1)) bytes.1 (set_have cells p.0 p.1 all bytes.0)

length-fill : (ps : List (ℕ × ℕ)) (cells : Cells) → length (fill ps cells) ≡ length cells
length-fill [] cells = refl
length-fill (p ∷ ps) cells =
    length-fill ps (set cells p.0 (Some p.1)) ∙ length-set cells p.0 (Some p.1)

none_only : (n : ℕ) → HaveBytes (replicate n None)
none_only zero = tt
none_only (suc n) = none_only n

hex_cells : (ps : List (ℕ × ℕ)) → AreBytes ps → HaveBytes (cells_of ps) × (length (cells_of ps) ≡ 65536)
unfolding cells_of
hex_cells ps bytes = (
  fill_have ps (replicate 65536 None) bytes (none_only 65536),
  length-fill ps (replicate 65536 None) ∙ length-replicate {A = Option ℕ} 65536 None,
)

file_good : (r : Result (List (ℕ × ℕ) × Option ℕ) FileFault) → IfOk r IsFile → IfOk (file_image r) IsImage
file_good (Ok file) good =
    let all = hex_cells file.0 good.bytes in
    let long = all.1 in
    record { bytes = all.0; size = omega (arith, long); start = good.start }
file_good (Err f) good = tt

bytes_good : (address : ℕ) (bytes : List ℕ) → address < 65536 → All (λ byte. byte < 256) bytes
    → IfOk (bytes_image address bytes) IsImage
bytes_good address bytes fits all = by (nat_lt 65536 (address + length bytes)) refl
  where
    long : length (cells_from address bytes) ≡ address + length bytes
    long = simp (length-append, length-replicate, length-map)

    by : (b : Bool) → nat_lt 65536 (address + length bytes) ≡ b
        → IfOk {E = ImageFault} (if b then Err fault.PastEnd else Ok (cells_from address bytes, Some address))
        IsImage
    by true e = tt
    by false e =
        let few : address + length bytes ≤ 65536 = grind (arith, nat_tests, e) in
        let length_is = long in
        record {
          bytes = none_have address (map Some bytes) (some_have bytes all);
          size = omega (arith, few, length_is);
          start = fits;
        }

image_good : (kind : ImageKind) (origin : ℕ) (bytes : List ℕ) → origin < 65536
    → All (λ byte. byte < 256) bytes → IfOk (image_of kind origin bytes) IsImage
image_good kind.Hex origin bytes fits all = file_good (hex_of bytes) (hex_good bytes)
image_good kind.Com origin bytes fits all = bytes_good 256 bytes (omega arith) all
image_good kind.Bytes origin bytes fits all = bytes_good origin bytes fits all

-- ---- programs

-- at most 65,536 cells, with bytes; and a start that is an address
pub record IsProgram (cells : Cells) (start : ℕ) : Type 0 where
  pub bytes : HaveBytes cells
  pub size : length cells ≤ 65536
  pub fits : start < 65536

start_fits : (cells : Cells) (said : Option ℕ) → length cells ≤ 65536 → IfSome said (λ start. start < 65536)
    → IfSome (start_in cells said) (λ start. start < 65536)
start_fits cells said few fits = by said fits (position is_some cells) refl
  where
    by : (said : Option ℕ) → IfSome said (λ start. start < 65536) → (o : Option ℕ)
        → position is_some cells ≡ o
        → IfSome (option_map (λ lowest. unwrap_or said lowest) o) (λ start. start < 65536)
    by said fits None e = tt
    by (Some start) fits (Some lowest) e = fits
    by None fits (Some lowest) e =
        let inside = position-Some is_some cells lowest None e in
        let lt = inside.0 in
        omega (arith, lt, few)

said_fits : (place said : Option ℕ) → IfSome place (λ start. start < 65536)
    → IfSome said (λ start. start < 65536) → IfSome (option_or place said) (λ start. start < 65536)
said_fits None said first second = second
said_fits (Some start) said first second = first

from_good : (cells : Cells) (o : Option ℕ) → HaveBytes cells → length cells ≤ 65536
    → IfSome o (λ start. start < 65536)
    → IfOk (program_from cells o) (λ program. IsProgram program.0 program.1)
from_good cells None all few fits = tt
from_good cells (Some start) all few fits = record { bytes = all; size = few; fits = fits }

placed_good : (bytes : List ℕ) (place : ImagePlace) (r : Result Image ImageFault) → AreInRange bytes place
    → IfOk r IsImage
    → IfOk (r >>= placed_image place) (λ program. IsProgram program.0 program.1)
placed_good bytes place (Ok image) is good =
    from_good image.0 (start_in image.0 (option_or place.start image.1)) good.bytes good.size
    (start_fits image.0 (option_or place.start image.1) good.size
    (said_fits place.start image.1 is.start good.start))
placed_good bytes place (Err e) is good = tt

pub program_good : (kind : ImageKind) (bytes : List ℕ) (place : ImagePlace) (cells : Cells) (start : ℕ)
    → AreInRange bytes place → program_for kind bytes place ≡ Ok (cells, start) → IsProgram cells start
program_good kind bytes place cells start is e =
    subst (λ (r : Result (Cells × ℕ) ImageFault). IfOk r (λ program. IsProgram program.0 program.1)) e
    (placed_good bytes place (image_of kind place.origin bytes) is
    (image_good kind place.origin bytes is.origin is.bytes_are))

-- ---- texts

short : (listing text : List ℕ) → short_text listing ≡ Ok text
    → (text ≡ listing) × (length (lines listing) ≤ 65537)
short listing text e = by (nat_lt 65537 (length (lines listing))) refl e
  where
    by : (b : Bool) → nat_lt 65537 (length (lines listing)) ≡ b
        → (if b then Err fault.TooManyLines else Ok listing) ≡ Ok text
        → (text ≡ listing) × (length (lines listing) ≤ 65537)
    by true is same = absurd (cc)
    by false is same = (cc, grind (arith, nat_tests, is))

listing_is : (kind : ImageKind) (bytes : List ℕ) (place : ImagePlace) (cells : Cells) (start : ℕ)
    (text : List ℕ)
    → program_for kind bytes place ≡ Ok (cells, start) → text_for kind bytes place ≡ Ok text
    → listing_for cells start ≡ Ok text
listing_is kind bytes place cells start text program is =
    sym (ap (λ (r : Result (Cells × ℕ) ImageFault). r >>= (λ p. listing_for p.0 p.1)) program) ∙ is

pub text_assembles : (kept : Entries) (kind : ImageKind) (bytes : List ℕ) (place : ImagePlace) (text : List ℕ)
    → AreInRange bytes place → text_for kind bytes place ≡ Ok text
    → (cells : Cells) (start : ℕ) → program_for kind bytes place ≡ Ok (cells, start)
    → AssemblesWith kept text (present cells) (Some start)
text_assembles kept kind bytes place text is text_is cells start program =
    let good = program_good kind bytes place cells start is program in
    let listing = listing_is kind bytes place cells start text program text_is in
    let l = short (listings_of cells (Some start)) text listing in
    subst (λ (t : List ℕ). AssemblesWith kept t (present cells) (Some start)) (sym l.0)
    (listings_assemble kept cells (Some start) good.bytes good.fits good.size l.1)
