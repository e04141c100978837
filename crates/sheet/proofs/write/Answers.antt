-- Each refusal is that of `sheet_writing`, and what is put is laid over the buffer.
use mathlib.Core.Path.{sym, ◌∙◌}
use native.Mathlib.Omega.{arith}
use Rattle.table.proofs.LegalLaws.{legal_small}
use Rattle.sheet.proofs.SheetWriterLaws.{told_done}
use Rattle.sheet.proofs.write.Goals as goal

pub text_size-size-requires : goal.text_size-size-requires
text_size-size-requires c = let s = legal_small _ (sym c.legal.ensures ∙ c.if-not-legal.false) in (s.0, s.1)

pub put_text-next-requires : goal.put_text-next-requires
put_text-next-requires c =
    let s = legal_small _ (sym c.legal.ensures ∙ c.if-not-legal.false) in
    (s.0, s.1, record { fits = omega (arith, c.text_size-size.ensures) })

pub returns : goal.returns
returns c = told_done _ _ _ (sym c.legal.ensures ∙ c.if-not-legal.false) (omega (arith, c.text_size-size.ensures)) c.put_text-next.ensures
