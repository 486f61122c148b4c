-- The laws of depth and of strengths, for the lists of tokens.
use Rattle.std.proofs.Common.{true, false, None}
use Rattle.qt_terminals.specs.Terminals.{stream}
use Rattle.qt_grammar.specs.Language.{expression, whole}
use Rattle.qt_grammar.specs.Spelling.{ReadsTo, OpensTo}
use Rattle.qt_grammar.specs.Theorems.{LevelsOfExpressionAreDepth, LevelsOfProgramAreDepth, EachTokenStands, StrengthsOnlyGroup, PartsStandInTurn}
use Rattle.qt_grammar.proofs.DepthTests.{fits_expression, fits_whole}
use Rattle.qt_grammar.proofs.Levels.{covers_reads, covers_opens, low_reads, low_opens, high_reads, high_opens}
use Rattle.qt_grammar.proofs.OneDepth.{once_reads, once_opens}
use Rattle.qt_grammar.proofs.Flat.{flat_reads, tower_reads, flat_opens, tower_opens}
use Rattle.qt_grammar.proofs.Turns.{in_turn, by_factors, in_turn_open, by_factors_open}
use Rattle.qt_grammar.specs.Form.{begun}

pub levels_of_expression : LevelsOfExpressionAreDepth
levels_of_expression all l outer i j = (
  λ v. (
    λ h. (record { levels = l.levels; spells = h }, low_reads (stream all) l.operators false expression fits_expression outer i l.levels (λ x. absurd (cc x)) v j h),
    λ h. high_reads (stream all) l.operators false expression fits_expression outer i (h.0).levels l.levels v j (h.0).spells h.1,
  ),
  (
    λ h. (record { levels = l.levels; opens = h }, low_opens (stream all) l.operators false expression fits_expression outer i l.levels (λ x. absurd (cc x)) j h),
    λ h. high_opens (stream all) l.operators false expression fits_expression outer i (h.0).levels l.levels j (h.0).opens h.1,
  ),
)

pub levels_of_program : LevelsOfProgramAreDepth
levels_of_program all l one j = (
  λ p. (
    λ h. (record { levels = l.levels; spells = h }, low_reads (stream all) l.operators true whole fits_whole None 0 l.levels (λ x. one) p j h),
    λ h. high_reads (stream all) l.operators true whole fits_whole None 0 (h.0).levels l.levels p j (h.0).spells h.1,
  ),
  (
    λ h. (record { levels = l.levels; opens = h }, low_opens (stream all) l.operators true whole fits_whole None 0 l.levels (λ x. one) j h),
    λ h. high_opens (stream all) l.operators true whole fits_whole None 0 (h.0).levels l.levels j (h.0).opens h.1,
  ),
)

pub each_token_stands : EachTokenStands
each_token_stands all operators s f outer i j = (
  λ v h.
      let once = once_reads (stream all) operators f outer i h.levels v j h.spells in
      record {
        each = λ k a b. let z = covers_reads (stream all) operators f outer i h.levels v j h.spells k a b in (z.0, z.1);
        one_depth = once.once;
        no_other = λ k depth s. (once.from k depth s, once.up_to k depth s);
      },
  λ h.
      let once = once_opens (stream all) operators f outer i h.levels j h.opens in
      record {
        each = λ k a b. let z = covers_opens (stream all) operators f outer i h.levels j h.opens k a b in (z.0, z.1);
        one_depth = once.once;
        no_other = λ k depth s. (once.from k depth s, once.up_to k depth s);
      },
)

pub strengths_only_group : StrengthsOnlyGroup
strengths_only_group all l outer i j = (
  (
    λ h. flat_reads (stream all) l.operators (ReadsTo (stream all) l.operators l.levels) (OpensTo (stream all) l.operators l.levels) outer i j h,
    λ h. tower_reads (stream all) l.operators (ReadsTo (stream all) l.operators l.levels) (OpensTo (stream all) l.operators l.levels) outer i j h,
  ),
  (
    λ h. flat_opens (stream all) l.operators (ReadsTo (stream all) l.operators l.levels) (OpensTo (stream all) l.operators l.levels) outer i j h,
    λ h. tower_opens (stream all) l.operators (ReadsTo (stream all) l.operators l.levels) (OpensTo (stream all) l.operators l.levels) outer i j h,
  ),
)

pub parts_stand_in_turn : PartsStandInTurn
parts_stand_in_turn all operators outer i j = (
  (
    λ h.
        let z = flat_reads (stream all) operators (ReadsTo (stream all) operators h.0) (OpensTo (stream all) operators h.0) outer i j (h.1, h.2) in
        let t = in_turn (stream all) operators (begun (stream all) outer i) h.0 i j z in
        (h.0, t.0, t.1),
    λ h.
        let t = by_factors (stream all) operators (begun (stream all) outer i) h.0 i j (h.1, h.2) in
        let z = tower_reads (stream all) operators (ReadsTo (stream all) operators t.0) (OpensTo (stream all) operators t.0) outer i j t.1 in
        (t.0, z.0, z.1),
  ),
  (
    λ h. (h.0, in_turn_open (stream all) operators (begun (stream all) outer i) h.0 i j (flat_opens (stream all) operators (ReadsTo (stream all) operators h.0) (OpensTo (stream all) operators h.0) outer i j h.1)),
    λ h.
        let t = by_factors_open (stream all) operators (begun (stream all) outer i) h.0 i j h.1 in
        (t.0, tower_opens (stream all) operators (ReadsTo (stream all) operators t.0) (OpensTo (stream all) operators t.0) outer i j t.1),
  ),
)
