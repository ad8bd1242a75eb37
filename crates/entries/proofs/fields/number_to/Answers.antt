use Rattle.std.proofs.Common.{◌≡◌, ◌+◌, ◌*◌, true, false, leb, drop, Some, None, sym, ◌∙◌, arith, rules}
use Rattle.std.proofs.lemmas.Bool.{cond-true, le-leb}
use Rattle.entries.specs.Fields.{digits_from}
use Rattle.entries.proofs.Digits.{number_is, past_limit, digits_more, digits_all}
use Rattle.entries.proofs.fields.number_to.Goals as goal

-- a byte that is no digit
pub returns-then-not-is_ascii_digit : goal.returns-then-not-is_ascii_digit
returns-then-not-is_ascii_digit c =
    let xs = c.args.word.now in
    let i = c.loop-byte.byte-index in
    let is = sym c.if-not-is_ascii_digit.ensures.value in
    let none = digits_more xs i c.loop-byte.value false c.loop-byte-test.true is in
    record {
      value = sym (number_is c.args.limit xs None (search rules) (sym c.loop-byte.invariant.0 ∙ none));
      within = tt;
    }

-- a value past the limit
pub returns-then-value-from : goal.returns-then-value-from
returns-then-value-from c =
    let xs = c.args.word.now in
    let limit = c.args.limit in
    let i = c.loop-byte.byte-index in
    let is = sym c.if-not-is_ascii_digit.ensures.value in
    let more = digits_more xs i c.loop-byte.value true c.loop-byte-test.true is in
    let next = c.loop-byte.value * 10 + c.from.result in
    let rest = drop (i + 1) xs in
    let all : digits_from 0 xs ≡ digits_from next rest = cc in
    let past = past_limit limit next rest (omega arith) in
    record {
      value = sym (number_is limit xs (digits_from next rest) (search rules) all ∙ past);
      within = tt;
    }

pub loop-byte-preserved : goal.loop-byte-preserved
loop-byte-preserved c =
    let xs = c.args.word.now in
    let i = c.loop-byte.byte-index in
    let is = sym c.if-not-is_ascii_digit.ensures.value in
    let more = digits_more xs i c.loop-byte.value true c.loop-byte-test.true is in
    (cc, omega arith)

pub returns : goal.returns
returns c =
    let xs = c.args.word.now in
    let limit = c.args.limit in
    let n = c.loop-byte.value in
    let all = digits_all xs c.loop-byte.byte-index n (search rules) in
    let small = c.loop-byte.invariant.1 in
    let kept = cond-true (leb n limit) (Some n) None (le-leb n limit small) in
    record {
      value = sym (number_is limit xs (Some n) (search rules) (sym c.loop-byte.invariant.0 ∙ all) ∙ kept);
      within = small;
    }
