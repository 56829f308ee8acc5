-- What is known of the files of programs. Of files that others can change, anything may be found.
use Rattle.std.specs.Prelude.{Option}
use Rattle.base_text.specs.Bytes.{Text}
use Rattle.dap_launch.specs.declared.file.FileText.{FileText}

pub record KnownFiles : Type 1 where
  -- this may be found at a path
  pub may_find : Text → FileText → Type 0
  -- this may be the canonical path of the file at a path, or there may be none
  pub may_be_at : Text → Option Text → Type 0
