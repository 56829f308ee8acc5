-- What is sealed of a request's draft are its frames.
use Rattle.std.proofs.Common.{◌≡◌, ◌∙◌, ℕ, List, [], refl, ap}
use Rattle.std.specs.Prelude.{slice_index_or}
use Rattle.jup_wire.specs.declared.sealing.Draft.{Draft}
use Rattle.jup_wire.specs.Header.{empty_object}
use Rattle.jup_wire.specs.Seal.{IsSealed, frames_of, signature_frame}
use Rattle.jup_wire.proofs.PartLemmas.{same_parts, text_is}
use Rattle.jup_wire.specs.Dates.{IsDate}
use Rattle.lab_term.specs.Requests.{request_header, request_content, request_parts, request_frames, IsDraftOf}
use Rattle.lab_term.specs.Requests.{IsRequest}
use Rattle.lab_term.specs.declared.cell.Cell.{Cell}

pub sealed_is_request : (key date session code : List ℕ) (draft : Draft) (frames : List (List ℕ))
    → IsDraftOf date session code draft → IsSealed key draft frames
    → frames ≡ request_frames key date session code
sealed_is_request key date session code draft frames of s =
    let header = text_is s.parts.header _ (request_header date session) s.header of.header refl in
    let metadata = text_is s.parts.metadata _ empty_object s.metadata of.metadata refl in
    let body = text_is s.parts.content _ (request_content code) s.content of.content refl in
    let same = same_parts s.parts (request_parts date session code) (s.identities ∙ of.identities) header
    (s.parent_header ∙ of.parent_header) metadata body in
    s.whole ∙ ap (λ p. frames_of p (signature_frame key p)) same

pub request_is : (cell : Cell) (date header : List ℕ) (frames : List (List ℕ)) → IsDate cell.unix_seconds date
    → frames ≡ request_frames cell.key.now date cell.session.now cell.code.now
    → header ≡ slice_index_or frames 2 [] → IsRequest cell header frames
request_is cell date header frames dated is at = record {
  date = date;
  dated = dated;
  header_is = at ∙ ap (λ (l : List (List ℕ)). slice_index_or l 2 []) is;
  frames_are = is;
}
