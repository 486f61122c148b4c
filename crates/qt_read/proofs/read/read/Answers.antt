use Rattle.std.proofs.Common.{ap, Err, sym, subst}
use Rattle.qt_tree.specs.declared.refusal.TextRefusal.TheVariants as refusal
use Rattle.qt_read.specs.Reading.{IsRefused, no_token}
use Rattle.qt_lex.specs.Tokens.{FailsAt}
use Rattle.qt_lookahead.specs.declared.refusal.ParseRefusal.TheVariants as p
use Rattle.qt_read.proofs.Steps.{has_tokens, program_of, reason_of}
use Rattle.qt_read.proofs.read.read.Goals as goal

pub returns-in-Err : goal.returns-in-Err
returns-in-Err c = c.in-Err.ensures.reason c.args.file

pub returns-in-Err-Token : goal.returns-in-Err-Token
returns-in-Err-Token c =
    let same = c.in-Ok.ensures.text.0 in
    let place = c.in-Err-Token.place in
    let fails : FailsAt c.in-Ok.text.now c.args.file place = c.in-Err-Token.ensures.refusal place (ap Err c.in-Err-Token.field-0-is) in
    subst (λ p. IsRefused c.args.name.now c.args.file c.args.bytes.now (refusal.E3 p)) (sym c.in-Err-Token.place-is)
    (no_token place c.in-Ok.ensures.text.1 c.in-Ok.ensures.text.2 (subst (λ t. FailsAt t c.args.file place) same fails))

pub returns-in-Ok-parse : goal.returns-in-Ok-parse
returns-in-Ok-parse c =
    let same = c.in-Ok.ensures.text.0 in
    let has = has_tokens c.args.file c.in-Ok.text.now c.args.bytes.now _ c.as_slice.result.now same c.in-Ok.ensures.text.1 c.in-Ok.ensures.text.2 c.as_slice.ensures.value c.in-Ok-lex.ensures.tokens in
    program_of c.args.file c.in-Ok.text.now c.args.bytes.now c.as_slice.result.now same has c.in-Ok-parse.program c.in-Ok-parse.ensures.program

pub returns-in-Err-Syntax : goal.returns-in-Err-Syntax
returns-in-Err-Syntax c =
    let same = c.in-Ok.ensures.text.0 in
    let has = has_tokens c.args.file c.in-Ok.text.now c.args.bytes.now _ c.as_slice.result.now same c.in-Ok.ensures.text.1 c.in-Ok.ensures.text.2 c.as_slice.ensures.value c.in-Ok-lex.ensures.tokens in
    reason_of c.args.name.now c.args.file c.in-Ok.text.now c.args.bytes.now c.as_slice.result.now same has (p.Syntax c.in-Err-Syntax.place) (rw c.in-Err-Syntax.field-0-is at c.in-Err-Syntax.ensures.refusal)

pub returns-in-Err-Nest : goal.returns-in-Err-Nest
returns-in-Err-Nest c =
    let same = c.in-Ok.ensures.text.0 in
    let has = has_tokens c.args.file c.in-Ok.text.now c.args.bytes.now _ c.as_slice.result.now same c.in-Ok.ensures.text.1 c.in-Ok.ensures.text.2 c.as_slice.ensures.value c.in-Ok-lex.ensures.tokens in
    reason_of c.args.name.now c.args.file c.in-Ok.text.now c.args.bytes.now c.as_slice.result.now same has (p.Nest c.in-Err-Nest.place) (rw c.in-Err-Nest.field-0-is at c.in-Err-Nest.ensures.refusal)

pub returns-in-Err-NotInProfile : goal.returns-in-Err-NotInProfile
returns-in-Err-NotInProfile c =
    let same = c.in-Ok.ensures.text.0 in
    let has = has_tokens c.args.file c.in-Ok.text.now c.args.bytes.now _ c.as_slice.result.now same c.in-Ok.ensures.text.1 c.in-Ok.ensures.text.2 c.as_slice.ensures.value c.in-Ok-lex.ensures.tokens in
    reason_of c.args.name.now c.args.file c.in-Ok.text.now c.args.bytes.now c.as_slice.result.now same has (p.NotInProfile c.in-Err-NotInProfile.place c.in-Err-NotInProfile.feature) (rw c.in-Err-NotInProfile.field-0-is at c.in-Err-NotInProfile.ensures.refusal)
