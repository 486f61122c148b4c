use Rattle.std.proofs.Common.{ℕ, List, inr, ap, subst, sym, map, string_bytes}
use Rattle.qt_outside.specs.Causes.{text_of}
use Rattle.qt_words.specs.Words.{named}
use Rattle.qt_words.specs.Requests.{mode_word}
use Rattle.qt_lines.specs.Puts.{PutsLine}
use Rattle.qt_host.specs.Steps.{IsAnswer}
use Rattle.qt_host.specs.Lines.{TellsRefusal}
use Rattle.qt_host.proofs.Answers.{said, told, line_of_status, refused_line}
use Rattle.qt_host.proofs.host.host.Goals as goal

pub returns-in-Err-clause-refusal : goal.returns-in-Err-clause-refusal
returns-in-Err-clause-refusal g c = λ texts tells one.
    let words = map string_bytes c.args.words.now in
    let why = c.in-Err.ensures.answer texts tells in
    (c.tell.ensures.0, told words texts c.in-Some.request.name.now c.in-Some.request.mode c.in-Err.refusal c.tell.result c.tell.ensures.0 c.in-Some.ensures why c.tell.ensures.1 one, c.tell.ensures.2)

pub returns-in-Err-clause-refusal_line : goal.returns-in-Err-clause-refusal_line
returns-in-Err-clause-refusal_line g c = λ one.
    let name = c.in-Some.request.name.now in
    let line = c.tell.ensures.0 in
    let is = refused_line name _ _ _ c.in-Err.refusal c.tell.result line c.in-Err.ensures.shelf c.tell.ensures.1 one in
    (line, is.0, subst (λ (n : List ℕ). TellsRefusal n line) (sym (ap named c.in-Some.ensures)) is.1, c.tell.ensures.2)

pub returns-in-Err-clause-line : goal.returns-in-Err-clause-line
returns-in-Err-clause-line g c = λ some other.
    let words = map string_bytes c.args.words.now in
    let same = line_of_status words (mode_word c.in-Some.request.mode) c.in-Some.request.name.now _ _ _ c.in-Err.refusal c.tell.result c.tell.ensures.0 c.in-Some.ensures c.in-Err.ensures.shelf c.tell.ensures.1 other in
    subst (PutsLine _ _) same c.tell.ensures.2

pub returns-in-Ok-put_lines-clause-answer : goal.returns-in-Ok-put_lines-clause-answer
returns-in-Ok-put_lines-clause-answer g c = λ texts tells zero.
    let is = subst (IsAnswer c.in-Some.request.mode (text_of texts c.in-Some.request.name.now)) (sym c.as_bytes.ensures.value) (c.in-Ok.ensures.answer texts tells) in
    (c.as_bytes.result.now, said (map string_bytes c.args.words.now) texts c.in-Some.request.name.now c.in-Some.request.mode c.as_bytes.result.now c.in-Some.ensures is, c.in-Ok-put_lines.ensures.ok)

pub returns-in-Err-Failed-clause-sink_part : goal.returns-in-Err-Failed-clause-sink_part
returns-in-Err-Failed-clause-sink_part g c = λ texts tells five.
    let is = subst (IsAnswer c.in-Some.request.mode (text_of texts c.in-Some.request.name.now)) (sym c.as_bytes.ensures.value) (c.in-Ok.ensures.answer texts tells) in
    let cut = rw c.in-Err-Failed.field-0-is at c.in-Err-Failed.ensures.refused in
    (c.as_bytes.result.now, said (map string_bytes c.args.words.now) texts c.in-Some.request.name.now c.in-Some.request.mode c.as_bytes.result.now c.in-Some.ensures is, cut.0)

pub returns-clause-memory_part : goal.returns-clause-memory_part
returns-clause-memory_part g c = λ texts tells six.
    let is = subst (IsAnswer c.in-Some.request.mode (text_of texts c.in-Some.request.name.now)) (sym c.as_bytes.ensures.value) (c.in-Ok.ensures.answer texts tells) in
    let cut = rw c.in-Err-OutOfMemory.field-0-is at c.in-Err-OutOfMemory.ensures.refused in
    inr ((c.as_bytes.result.now, said (map string_bytes c.args.words.now) texts c.in-Some.request.name.now c.in-Some.request.mode c.as_bytes.result.now c.in-Some.ensures is, cut.0), cut.1)
