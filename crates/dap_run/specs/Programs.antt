-- A launched program (Debug Adapter Protocol, `launch` and `restart`).
use Rattle.std.specs.Prelude.{ℕ, if◌then◌else◌, Option, Some, None}
use Rattle.std.specs.Str.{bytes_eq}
use Rattle.base_text.specs.Bytes.{Text}
use Rattle.dap_requests.specs.declared.request.Launch.{Launch as LaunchOf}
use Rattle.dap_run.specs.declared.program.Phase.TheVariants as phase
use Rattle.dap_run.specs.declared.program.Program.{Program}

-- a program that was loaded, before it begins
abbrev pub program_of : LaunchOf → ℕ → Program
program_of l start = record { launch = l; start = start; phase = phase.Loaded }

-- the program, if it is the file with this path
abbrev pub program_at : Text → Option Program → Option Program
program_at path None = None
program_at path (Some p) = if bytes_eq p.launch.canonical path then Some p else None
