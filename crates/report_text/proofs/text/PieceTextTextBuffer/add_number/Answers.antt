use Rattle.std.proofs.Common.{◌≡◌, ◌≤◌, ◌+◌, ◌++◌, length, take, decimal, sym, ap, ◌∙◌, arith, length-append}
use Rattle.std.proofs.lemmas.List.{length-take-le}
use Rattle.report_text.proofs.DecimalLengths.{digits_fit, number_after, same_length, refilled}
use Rattle.report_text.proofs.text.PieceTextTextBuffer.add_number.Goals as goal

pub overflow_add-end : goal.overflow_add-end
overflow_add-end c =
    omega (arith, c.self.invariant.0, c.decimal_length.ensures, digits_fit c.args.number (omega (arith, c.ranges.number.fits)))

pub write_digits-start-requires : goal.write_digits-start-requires
write_digits-start-requires c =
    let few = digits_fit c.args.number (omega (arith, c.ranges.number.fits)) in
    let held : length c.args.self.now ≡ c.self.inside.end =
    ap length (sym c.self.view_is) ∙ length-take-le c.self.inside.end c.self.inside.bytes.items (omega (arith, c.self.invariant.0, c.self.invariant.1)) in (
      omega (arith, c.decimal_length.ensures, ap (λ n. length (decimal n)) c.from.ensures),
      omega (arith, held, few, c.requires, c.decimal_length.ensures, c.self.invariant.1, ap length c.deref_mut.ensures.value),
    )

pub returns-clause-items : goal.returns-clause-items
returns-clause-items c =
    let old = c.deref_mut.result.now in
    let new = c.write_digits-start.new.buf in
    let end = c.self.inside.end in
    let count = c.decimal_length.result in
    let counted : count ≡ length (decimal c.from.result) = c.decimal_length.ensures ∙ sym (ap (λ n. length (decimal n)) c.from.ensures) in
    let told = c.write_digits-start.ensures in
    let few = digits_fit c.args.number (omega (arith, c.ranges.number.fits)) in
    let held : length c.args.self.now ≡ end =
    ap length (sym c.self.view_is) ∙ length-take-le end c.self.inside.bytes.items (omega (arith, c.self.invariant.0, c.self.invariant.1)) in
    let within : end + count ≤ length old =
    omega (arith, held, few, c.requires, c.decimal_length.ensures, c.self.invariant.1, ap length c.deref_mut.ensures.value) in
    ap (take (end + count)) (refilled c.self.inside.bytes.len c.self.inside.bytes.items new
    (same_length old new end c.write_digits-start.result count c.from.result counted told.start told.written told.before within
    ∙ c.deref_mut.ensures.len))
    ∙ number_after old new end c.write_digits-start.result count c.from.result counted told.start told.written told.before
    ∙ ap (λ bytes. take end bytes ++ decimal c.from.result) c.deref_mut.ensures.value
    ∙ ap (λ text. text ++ decimal c.from.result) c.self.view_is
    ∙ ap (λ n. c.args.self.now ++ decimal n) c.from.ensures

pub returns-clause-room : goal.returns-clause-room
returns-clause-room c =
    omega (
      arith,
      ap length (returns-clause-items c),
      length-append c.args.self.now (decimal c.args.number),
      digits_fit c.args.number (omega (arith, c.ranges.number.fits)),
    )
