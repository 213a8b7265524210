use Rattle.std.proofs.Common.{◌<◌, ◌^◌, ◌++◌, List, ℕ, ap, sym, ◌∙◌, arith}
use Rattle.scitt_answers.specs.Problems.{kind_of, numbers_of, fields_text, title_text, problem_bytes}
use Rattle.scitt_answers.proofs.Bodies.{body_is, title_whole}
use Rattle.scitt_answers.proofs.problem.problem_body.Goals as goal

pub returns : goal.returns
unfolding problem_bytes
returns c =
    let laws = c.strict_item_by_kind.ensures in
    let p = c.args.problem in
    let kind = c.kind_of-kind.ensures in
    let named = c.numbers_of.ensures in
    let code : (kind_of p).code < 2 ^ 64 = omega (arith, kind.code) in
    let moment : (numbers_of p).moment < 2 ^ 64 = omega (arith, named.moment) in
    let a : (numbers_of p).a < 2 ^ 64 = omega (arith, named.a) in
    let b : (numbers_of p).b < 2 ^ 64 = omega (arith, named.b) in
    let small : c.args.size < 2 ^ 64 = omega arith in
    c.from_vec.ensures
    ∙ c.put_title.ensures
    ∙ ap (λ (x : List ℕ). x ++ title_text c.kind_of-kind.result.title.now) c.put_fields.ensures.items
    ∙ (λ i. (c.requires.empty i ++ fields_text (kind.code i) c.args.size (named.moment i) (named.a i) (named.b i)) ++ title_text (kind.title i))
    ∙ sym (body_is laws.uint_text laws.nint_text laws.text_text (kind_of p).code c.args.size (numbers_of p).moment (numbers_of p).a (numbers_of p).b (kind_of p).title code small moment a b (title_whole p))
