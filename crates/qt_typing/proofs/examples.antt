mod Words
mod Rows
mod Orders
mod Phases
mod Names
mod Qubits
