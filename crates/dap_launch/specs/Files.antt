-- The text of a program's file.
use Rattle.std.specs.Prelude.{Option, Some, None, Result, Ok, Err, codes}
use Rattle.base_text.specs.Bytes.{Text}
use Rattle.dap_requests.specs.declared.request.Launch.{Launch}
use Rattle.dap_image.specs.declared.fault.ImageFault.{ImageFault}
use Rattle.dap_image.specs.declared.text.ImagePlace.{ImagePlace}
use Rattle.dap_image.specs.Faults.{fault_message}
use Rattle.dap_image.specs.Texts.{text_for}
use Rattle.dap_launch.specs.declared.file.FileText.{FileText}
use Rattle.dap_launch.specs.declared.file.FileText.TheVariants as file

-- where the bytes of a program without source are, and where it starts
abbrev pub place_of : Launch → ImagePlace
place_of l = record { origin = l.origin; start = l.start }

abbrev pub or_message : Result Text ImageFault → Result Text Text
or_message (Ok text) = Ok text
or_message (Err fault) = Err (fault_message fault)

-- The text that was found, or why there is none. A program without source has its disassembly for a text.
abbrev pub program_text : Launch → Option FileText → Result Text Text
program_text l None = Err (codes "no file")
program_text l (Some file.Missing) = Err (codes "no file")
program_text l (Some file.Unreadable) = Err (codes "the file can't be read")
program_text l (Some file.NotText) = Err (codes "the file is not UTF-8 text")
program_text l (Some file.TooLong) = Err (codes "the text is too long")
program_text l (Some (file.Text text)) = Ok text
program_text l (Some (file.Image kind bytes)) = or_message (text_for kind bytes (place_of l))
