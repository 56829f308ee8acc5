-- What is sealed can be opened.
use Rattle.std.proofs.Common.{◌≡◌, inl, inr, ℕ, List, [], ◌∷◌, Option, Some, IsSome, Result, Ok, Err, IfOk}
use Rattle.std.proofs.Common.{refl, sym, ap, ◌∙◌, subst}
use Rattle.serde_json.specs.View.{view}
use Rattle.jup_wire.specs.declared.message.Parts.{Parts}
use Rattle.jup_wire.specs.declared.message.Header.{Header}
use Rattle.jup_wire.specs.declared.sealing.Draft.{Draft}
use Rattle.jup_wire.specs.Json.{json_of}
use Rattle.jup_wire.specs.Wire.{NoDelimiter, IsSigned, IsMessage}
use Rattle.jup_wire.specs.Seal.{signature_frame, frames_of, IsWrittenFrom, IsSealed, IsOpenable}

is_some_at : {A : Type 0} (o : Option A) (x : A) → o ≡ Some x → IsSome o
is_some_at o x e = subst (λ (p : Option _). IsSome p) (sym e) refl

signed_frame : (key : List ℕ) (p : Parts) → IsSigned key (signature_frame key p) p
signed_frame [] p = inl refl
signed_frame (byte ∷ bytes) p = inr refl

pub opens_again : (key : List ℕ) (d : Draft) (frames : List (List ℕ)) → IsSealed key d frames → (h : Header)
    → IsOpenable d h
    → (parts : Parts) × IsMessage key frames parts h (view d.content)
    × (parts.identities ≡ d.identities) × (parts.parent_header ≡ d.parent_header)
opens_again key d frames s h o =
    let parts : Parts = s.parts in
    let header : json_of parts.header ≡ Some (view d.header) = s.header.reads o.header_depth in
    let metadata : json_of parts.metadata ≡ Some (view d.metadata) = s.metadata.reads o.metadata_depth in
    let content : json_of parts.content ≡ Some (view d.content) = s.content.reads o.content_depth in
    let parent : IsSome (json_of parts.parent_header) =
    subst (λ (x : List ℕ). IsSome (json_of x)) (sym s.parent_header) o.parent_header in (
      parts,
      record {
        digits = signature_frame key parts;
        parts = record {
          buffers = [];
          whole = s.whole;
          first = subst NoDelimiter (sym s.identities) o.identities;
        };
        signed = signed_frame key parts;
        json = (is_some_at _ _ header, (parent, (is_some_at _ _ metadata, (is_some_at _ _ content, tt))));
        header_value = view d.header;
        header_json = header;
        header = o.header;
        content_json = content;
      },
      s.identities,
      s.parent_header,
    )

pub sealed_from : {E : Type 0} (key : List ℕ) (d : Draft) (p : Parts) (digits : List ℕ)
    (r : Result (List (List ℕ)) E) → IsWrittenFrom d p → digits ≡ signature_frame key p
    → IfOk r (λ frames. frames ≡ frames_of p digits) → IfOk r (IsSealed key d)
sealed_from key d p digits (Ok frames) parts right whole = record {
  parts = p;
  whole = whole ∙ ap (frames_of p) right;
  identities = parts.identities;
  header = parts.texts.header_text;
  parent_header = parts.parent_header;
  metadata = parts.texts.metadata_text;
  content = parts.texts.content_text;
}
sealed_from key d p digits (Err e) parts right whole = tt
