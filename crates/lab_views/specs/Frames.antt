-- The frames of a stopped run, innermost first.
use Rattle.std.specs.Prelude.{ℕ, ◌+◌, List, [], ◌∷◌, ◌++◌, length, reverse, Bool, true, false, ◌&&◌, ◌==◌}
use Rattle.std.specs.Prelude.{Option, Some, None, option_map, unwrap_or, slice_get, codes}
use Rattle.std.specs.List.{find}
use Rattle.base_text.specs.Hexadecimal.{upper_word}
use Rattle.asm_build.specs.declared.symbols.Symbol.{Symbol}
use Rattle.asm_build.specs.declared.symbols.SymbolKind.{SymbolKind}
use Rattle.asm_build.specs.declared.symbols.SymbolKind.TheVariants.{Label, Equ, Set}
use Rattle.asm_build.specs.Reading.{Entries}
use Rattle.lab_frames.specs.declared.frame.Frame.{Frame}
use Rattle.lab_image.specs.declared.origin.Origin.{Origin}
use Rattle.lab_image.specs.Loads.{origin_of}
use Rattle.lab_image.specs.declared.sources.Source.{Source}
use Rattle.lab_shown.specs.declared.shown.StackFrame.{StackFrame}
use Rattle.lab_views.specs.Parts.{Parts}

-- ---- names of routines

abbrev pub is_label : SymbolKind → Bool
is_label Label = true
is_label Equ = false
is_label Set = false

abbrev pub labels : ℕ → List ℕ × Symbol → Bool
labels address e = is_label e.1.kind && e.1.value == address

-- the first label with an address, in order of definition
abbrev pub label_of : Entries → ℕ → Option (List ℕ)
label_of symbols address = option_map (λ e. e.0) (find (labels address) symbols)

-- a routine is named by it, or else by its address as `hhhhH`
abbrev pub routine_name : Entries → ℕ → List ℕ
routine_name symbols address = unwrap_or (label_of symbols address) (upper_word address ++ codes "H")

-- ---- sources of addresses

abbrev pub path_of : List Source → ℕ → Option (List ℕ)
path_of sources number = option_map (λ s. s.path) (slice_get sources number)

abbrev pub origin_path : List Source → Option Origin → Option (List ℕ)
origin_path sources None = None
origin_path sources (Some o) = path_of sources o.source

abbrev pub origin_line : Option Origin → ℕ
origin_line None = 0
origin_line (Some o) = o.line

-- ---- frames

abbrev pub frame_at : Parts → ℕ → List ℕ → ℕ → StackFrame
frame_at p id name address = record {
  id = id;
  name = name;
  source = origin_path p.sources (origin_of p.loads address);
  line = origin_line (origin_of p.loads address);
  address = address;
}

-- The frame of this id stands at this address, inside these live frames, newest first. It is the
-- newest one's, whose site is where the next frame stands; outside all of them is the main program.
abbrev pub frames_from : Parts → ℕ → ℕ → List Frame → List StackFrame
frames_from p id address [] = frame_at p id (codes "main") address ∷ []
frames_from p id address (f ∷ older) =
    frame_at p id (routine_name p.symbols f.target) address ∷ frames_from p (id + 1) f.site older

-- the innermost frame has id 1 and stands at PC
abbrev pub all_frames : Parts → List StackFrame
all_frames p = frames_from p 1 p.machine.regs.pc (reverse p.frames)

abbrev pub frame_count : Parts → ℕ
frame_count p = length p.frames + 1
