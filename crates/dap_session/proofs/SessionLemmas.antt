-- The beginning of a program, before and after the configuration is done.
use Rattle.std.proofs.Common.{◌≡◌, Option, Some, None, true, refl, sym, ap, subst}
use Rattle.dap_run.specs.declared.program.Phase.{Phase}
use Rattle.dap_run.specs.declared.program.Phase.TheVariants.{Loaded, Begun, Held, Over}
use Rattle.dap_run.specs.declared.program.Program.{Program}
use Rattle.dap_run.specs.declared.reply.Reply.{Reply}
use Rattle.dap_session.specs.declared.settings.SessionSettings.{SessionSettings}
use Rattle.dap_session.specs.States.{SessionState}
use Rattle.dap_session.specs.Turns.{Replied}
use Rattle.dap_session.specs.Launches.{beginning_in, beginning_where}
use Rattle.dap_session.specs.Requests.{set_configured}
use Rattle.dap_session.specs.Represents.{SessionFields, Replies}

abbrev pub and_configured : Replied → Replied
and_configured r = record r { state = set_configured r.state }

configured_in : (h : Phase) (p : Program) (s : SessionState)
    → beginning_in h p (set_configured s) ≡ and_configured (beginning_in h p s)
configured_in Loaded p s = refl
configured_in Begun p s = refl
configured_in (Held how) p s = refl
configured_in Over p s = refl

pub configured_so : (o : Option Program) (s : SessionState)
    → beginning_where o (set_configured s) ≡ and_configured (beginning_where o s)
configured_so None s = refl
configured_so (Some p) s = configured_in p.phase p s

pub replies_configured : (s : SessionState) (reply : Reply) (mid new : SessionFields)
    → Replies (beginning_where s.settings.program s) reply mid
    → new ≡ record mid { settings = record mid.settings { is_configured = true } }
    → Replies (beginning_where s.settings.program (set_configured s)) reply new
replies_configured s reply mid new begun is =
    let P : Replied → Type 0 = λ r. Replies r reply new in
    let begun_as = and_configured (beginning_where s.settings.program s) in
    let Q : SessionFields → Type 0 = λ v. Replies begun_as reply v in
    subst P (sym (configured_so s.settings.program s)) (subst Q (sym is) (record {
      outcome = begun.outcome;
      follow = begun.follow;
      represents = record {
        board = begun.represents.board;
        settings = ap (λ (t : SessionSettings). record t { is_configured = true }) begun.represents.settings;
      };
    }))
