use Rattle.scitt_answers.proofs.Told.{turned_problem, problem_of_size}
use Rattle.scitt_answers.proofs.answering.refuse.Goals as goal

pub returns-clause-turned : goal.returns-clause-turned
returns-clause-turned g c = turned_problem c.args.problem c.size-size.result c.args.manner c.size-size.ensures.turned c.problem_answer.ensures.answer

pub returns-clause-answer : goal.returns-clause-answer
returns-clause-answer g c = problem_of_size c.args.problem c.size-size.result c.args.manner c.problem_answer.ensures.answer
