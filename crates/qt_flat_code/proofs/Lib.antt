mod examples
mod GateCallExamples
